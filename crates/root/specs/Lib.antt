pub mod Root
pub mod Computed
