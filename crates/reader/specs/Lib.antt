pub mod Answers
pub mod ByTables
pub mod Lists
pub mod Claims
pub mod Parts
