pub mod Copies
pub mod Calls
pub mod Parts
pub mod Claims
