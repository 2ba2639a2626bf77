pub mod Conic
