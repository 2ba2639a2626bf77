pub mod Sky
pub mod Looked
