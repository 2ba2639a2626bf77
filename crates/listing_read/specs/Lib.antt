pub mod Form
pub mod Bytes
pub mod Reached
