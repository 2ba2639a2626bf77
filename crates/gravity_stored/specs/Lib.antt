pub mod Injection
