pub mod Trailer
pub mod Captures
pub mod Judging
pub mod Claims
pub mod Places
