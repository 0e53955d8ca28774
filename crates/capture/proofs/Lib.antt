pub mod Fronts
pub mod Calls
pub mod Writes
pub mod OneAnswer
pub mod Claims
