pub mod Entries
pub mod Captures
pub mod Claims
