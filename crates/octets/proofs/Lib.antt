pub mod Placed
pub mod Eights
pub mod Claims
