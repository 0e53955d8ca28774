pub mod Demands
pub mod Exactly
