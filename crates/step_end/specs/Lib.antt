pub mod Arrival
pub mod Kept
