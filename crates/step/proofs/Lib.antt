pub mod Answered
pub mod OneStep
