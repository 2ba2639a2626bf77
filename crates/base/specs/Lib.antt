pub mod Choice
pub mod Refusals
pub mod Checks
pub mod Limits
pub mod Floats
