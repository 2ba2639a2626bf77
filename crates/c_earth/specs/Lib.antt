pub mod Earth
