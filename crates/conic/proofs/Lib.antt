pub mod Figures
pub mod OneAnswer
