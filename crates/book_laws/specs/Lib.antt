pub mod Fuller
pub mod Wrong
