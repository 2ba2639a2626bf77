pub mod Whole
pub mod Ranges
pub mod First
pub mod OneAnswer
pub mod Spelled
