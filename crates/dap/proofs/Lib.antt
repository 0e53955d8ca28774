pub mod Laws
pub mod Sums
pub mod Parities
pub mod Answers
pub mod Theorems
