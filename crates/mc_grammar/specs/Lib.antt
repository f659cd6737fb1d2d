pub mod Progress
pub mod Reading
pub mod Pieces
pub mod Plain
