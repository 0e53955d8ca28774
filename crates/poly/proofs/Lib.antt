pub mod Division
pub mod Factors
pub mod Steps
