pub mod Cuts
mod Entries
mod Newlines
mod Samples
mod Splits
pub mod Trims
