pub mod Less
pub mod Rounding
