pub mod Lines
pub mod Judging
pub mod Finding
pub mod Whole
pub mod Skipping
