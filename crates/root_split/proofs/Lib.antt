pub mod Values
pub mod Fields
pub mod Tests
