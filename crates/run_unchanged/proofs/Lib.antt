pub mod LessZero
pub mod AboutTheEarth
pub mod Recomputed
pub mod Runs
