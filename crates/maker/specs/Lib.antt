pub mod Parts
pub mod Makes
pub mod Lists
pub mod Claims
