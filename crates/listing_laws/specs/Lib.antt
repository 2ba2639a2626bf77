pub mod OnlyIf
