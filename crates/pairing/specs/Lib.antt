pub mod Order
pub mod Answers
pub mod Bursts
pub mod Runs
pub mod Claims
