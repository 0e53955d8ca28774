pub mod Found
pub mod Reads
pub mod Claims
