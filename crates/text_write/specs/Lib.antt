pub use Rattle.text_read.specs.Fields
pub mod Numerals
pub mod Written
