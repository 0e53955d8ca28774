pub mod Fields
pub mod Frames
pub mod LongestRun
pub mod Sums
