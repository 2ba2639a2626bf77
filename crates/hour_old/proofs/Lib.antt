pub mod Quotients
pub mod Sum
