pub mod Range
pub mod Apart
pub mod Inverse
pub mod Changes
pub mod Answers
pub mod Theorems
pub mod Bound
