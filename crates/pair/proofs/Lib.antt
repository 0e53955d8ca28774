pub mod Moves
pub mod Lines
pub mod Turns
pub mod InPlace
pub mod OneAnswer
pub mod There
