pub mod Denials
pub mod Kinds
pub mod Masks
pub mod Refusals
pub mod Scopes
