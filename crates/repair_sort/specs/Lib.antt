pub mod Fates
pub mod Reasons
pub mod Ordered
pub mod Held
