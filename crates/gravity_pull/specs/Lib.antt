pub mod Pull
pub mod Sum
