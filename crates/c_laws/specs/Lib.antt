pub mod Table
pub mod Linked
pub mod Panes
pub mod Desks
