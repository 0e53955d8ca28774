pub mod Bits
pub mod Lent
