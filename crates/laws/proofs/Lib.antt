pub mod Truth
pub mod Computed
pub mod Xor
pub mod Bits
pub mod Front
pub mod Writing
