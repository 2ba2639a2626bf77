pub mod Journey
pub mod Guessed
pub mod Wrong
