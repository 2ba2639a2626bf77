pub mod Pane
pub mod Laws
