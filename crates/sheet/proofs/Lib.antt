pub mod Fixed
pub mod Keeps
pub mod Later
pub mod Lines
pub mod Notes
pub mod Outside
pub mod Standing
pub mod Steps
