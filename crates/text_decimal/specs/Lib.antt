pub mod Nearest
pub mod Numeral
