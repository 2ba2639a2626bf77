pub mod Refusals
pub mod Checks
pub mod Clear
pub mod Bounds
pub mod OneAnswer
pub mod Cases
pub mod Bools
pub mod Finite
