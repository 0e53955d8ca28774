pub mod Spots
pub mod Rule
pub mod Built
pub mod Ones
pub mod Shown
pub mod Nearest
pub mod FiveApart
