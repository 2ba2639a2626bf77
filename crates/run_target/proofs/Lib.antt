pub mod Allowed
pub mod Order
