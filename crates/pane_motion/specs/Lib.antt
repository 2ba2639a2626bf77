pub mod Motion
pub mod Laws
