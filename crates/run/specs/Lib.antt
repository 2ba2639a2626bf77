pub use Rattle.step.specs.Step
pub use Rattle.step.specs.Stages
pub mod Walk
pub mod Run
pub mod Kept
