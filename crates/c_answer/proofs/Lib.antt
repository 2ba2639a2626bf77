pub mod Answered
pub mod OneAnswer
