pub mod Checked
pub mod Stored
pub mod Refused
pub mod Launched
pub mod OneAnswer
