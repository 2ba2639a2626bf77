pub mod Room
pub mod Call
pub mod Spelled
