pub mod Bits
pub mod FromFn
pub mod Lowest
pub mod MaskLaws
pub mod ScopeLaws
