pub mod OneText
pub mod Written
