pub mod Digits
pub mod Hex
pub mod Notices
pub mod Claims
