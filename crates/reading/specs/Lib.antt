pub mod Plain
pub mod Scopes
pub mod Commands
pub mod Tables
pub mod Readings
pub mod Faults
