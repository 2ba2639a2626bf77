pub mod Answers
pub mod Gregorian
