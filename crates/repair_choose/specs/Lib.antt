pub mod Forward
pub mod LastKept
pub mod Sized
