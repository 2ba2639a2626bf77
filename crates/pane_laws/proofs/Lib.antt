pub mod Reached
pub mod Kept
pub mod Shown
pub mod Journeys
pub mod Night
pub mod Long
