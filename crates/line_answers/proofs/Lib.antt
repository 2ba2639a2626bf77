pub mod Numbers
pub mod OneAnswer
pub mod Rows
