pub mod Lines
pub mod Strip
pub mod Course
