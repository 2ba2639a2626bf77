pub mod Step
pub mod Stages
pub mod Entries
