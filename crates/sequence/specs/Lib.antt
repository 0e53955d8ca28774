pub mod Bits
pub mod Sequence
pub mod Patterns
pub mod Counting
pub mod Claims
