pub mod Symbols
pub mod Blocks
pub mod Parts
pub mod Claims
