pub mod Heads
pub mod LogLaws
pub mod OpenLaws
pub mod RecordLaws
pub mod SoundLaws
