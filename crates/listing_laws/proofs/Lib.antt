pub mod Numbers
pub mod Texts
pub mod Spelling
pub mod OnlyIf
