pub mod Desk
pub mod OnAir
pub mod Night
