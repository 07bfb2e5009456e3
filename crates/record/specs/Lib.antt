pub mod Calls
pub mod Dockets
pub mod Told
pub mod Sound
pub mod State
pub mod View
