pub mod Bounded
pub mod Octants
pub mod OneAnswer
