pub mod Chosen
pub mod Refusals
pub mod Rising
