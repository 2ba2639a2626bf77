pub mod FiniteBits
