pub mod Century
pub mod Sidereal
