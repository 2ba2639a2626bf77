pub mod Frames
pub mod Taken
pub mod OneAnswer
