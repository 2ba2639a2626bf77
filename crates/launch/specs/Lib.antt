pub mod Sphere
pub mod Signed
