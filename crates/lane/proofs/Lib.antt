pub mod Piece
pub mod Frames
pub mod Claims
