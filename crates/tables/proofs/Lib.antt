pub mod Grown
pub mod Rules
