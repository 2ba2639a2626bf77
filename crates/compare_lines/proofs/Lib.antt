pub mod Likes
pub mod Printed
