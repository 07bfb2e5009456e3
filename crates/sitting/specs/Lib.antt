pub mod Closings
pub mod Scenes
pub mod Sittings
pub mod Tales
