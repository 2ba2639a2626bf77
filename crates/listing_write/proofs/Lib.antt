pub mod Lengths
pub mod Courses
pub mod Whole
pub mod Printed
