pub mod Powers
pub mod WholeRoots
pub mod Maps
pub mod Turns
