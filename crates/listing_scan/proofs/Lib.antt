pub mod Bytes
pub mod Taking
