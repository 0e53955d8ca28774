pub mod Buffer
pub mod Labels
pub mod OneAnswer
pub mod OneFile
