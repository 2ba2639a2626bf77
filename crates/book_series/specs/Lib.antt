pub mod Series
pub mod Axis
pub mod Sums
