pub use Rattle.gravity_pull.specs.Pull
pub mod Acceleration
pub mod Sight
