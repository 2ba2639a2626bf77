pub mod Puts
pub mod Turning
pub mod Alike
pub mod Parts
