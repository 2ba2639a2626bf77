pub mod Hour
