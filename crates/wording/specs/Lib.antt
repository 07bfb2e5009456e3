pub mod Figures
pub mod Names
pub mod Numerals
