pub mod Settled
pub mod OwnBody
