pub mod Century
