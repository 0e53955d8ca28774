pub mod Poly
pub mod Steps
pub mod Claims
