pub mod Holds
pub mod Answer
pub mod Laws
pub mod Walk
