pub mod Fields
pub mod Patterns
