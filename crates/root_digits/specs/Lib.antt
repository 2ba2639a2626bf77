pub mod Nearest
pub mod Digits
