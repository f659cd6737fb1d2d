pub mod Pieces
pub mod Readings
mod Cases
