pub mod SoFar
pub mod Finite
pub mod Under
pub mod Places
pub mod OneAnswer
pub mod Refused
pub mod Centres
