pub use Rattle.run_target.proofs.Allowed
pub mod Passed
