pub mod ByTables
pub mod Entries
pub mod Turns
pub mod OneAnswer
pub mod Shown
pub mod Calls
