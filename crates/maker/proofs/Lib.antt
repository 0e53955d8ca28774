pub mod Turns
pub mod Scan
pub mod OneAnswer
