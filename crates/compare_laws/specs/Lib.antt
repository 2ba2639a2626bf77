pub mod Laws
pub mod Order
pub mod Runs
pub mod Same
