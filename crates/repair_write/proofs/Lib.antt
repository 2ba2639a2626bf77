pub mod Texts
pub mod Books
