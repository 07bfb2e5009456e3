pub mod Colons
mod Rows
mod Samples
pub mod Words
