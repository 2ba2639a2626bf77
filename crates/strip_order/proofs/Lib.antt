pub mod Reading
pub mod Old
