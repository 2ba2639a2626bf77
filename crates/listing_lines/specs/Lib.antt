pub mod Digits
pub mod Whole
