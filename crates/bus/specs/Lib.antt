pub mod Wires
pub mod Rule
pub mod Calls
pub mod Claims
