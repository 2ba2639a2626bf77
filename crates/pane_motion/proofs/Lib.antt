pub mod Same
pub mod OneAnswer
