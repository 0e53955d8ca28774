pub mod Code
pub mod Corrections
pub mod Claims
