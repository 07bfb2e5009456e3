pub mod Calls
pub mod Closed
pub mod Seen
pub mod Settle
pub mod Valid
