pub mod Readings
pub mod Portions
