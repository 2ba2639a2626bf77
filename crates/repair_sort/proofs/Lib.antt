pub mod Either
pub mod Sounds
pub mod Keys
pub mod Inserted
pub mod Looking
pub mod Backward
