pub use Rattle.step.proofs.OneStep
pub mod Runs
pub mod Start
pub mod Walked
pub mod Walks
pub mod OneAnswer
