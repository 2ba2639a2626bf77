pub mod Precession
