pub mod Moved
pub mod Legs
