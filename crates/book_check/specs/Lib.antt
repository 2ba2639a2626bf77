pub mod Contents
pub mod Passes
pub mod Check
