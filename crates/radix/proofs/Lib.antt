pub mod Digits
pub mod Joined
pub mod Stored
pub mod Writing
pub mod Forms
