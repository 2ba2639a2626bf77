pub mod Acceleration
pub mod Step
pub mod Run
