pub mod Generation
pub mod Counting
pub mod Reporting
pub mod Answers
pub mod Calls
pub mod Parts
pub mod Claims
