pub mod Octets
pub mod Claims
pub mod Forms
