pub mod First
pub mod Copies
pub mod Reaching
pub mod SameBytes
pub mod Laws
pub mod OneAnswer
