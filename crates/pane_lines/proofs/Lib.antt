pub mod Ended
pub mod Lines
pub mod OneAnswer
