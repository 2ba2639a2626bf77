pub mod Angles
pub mod OneAnswer
