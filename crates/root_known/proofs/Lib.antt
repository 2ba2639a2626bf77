pub mod OneFloat
pub mod Pairs
