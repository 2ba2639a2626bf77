pub mod Lengths
pub mod Runs
