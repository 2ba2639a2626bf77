pub mod Numerator
pub mod Turns
pub mod Slopes
