pub mod File
pub mod Refused
pub mod Claims
