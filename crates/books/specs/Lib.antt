pub mod Pair
pub mod Plain
pub mod Questions
pub mod Reasons
pub mod Twos
