pub mod Report
pub mod Repaired
