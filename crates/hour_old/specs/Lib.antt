pub mod Division
pub mod DocumentOne
