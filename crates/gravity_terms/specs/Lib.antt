pub mod Terms
pub mod Added
