pub mod Lists
pub mod Order
pub mod Made
pub mod Example
pub mod Answers
pub mod Bursts
pub mod Runs
