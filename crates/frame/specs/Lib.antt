pub mod Word
pub mod Line
pub mod Sums
pub mod Parts
pub mod Claims
