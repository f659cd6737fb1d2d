pub mod Byes
pub mod Cases
pub mod Limits
pub mod Overlaps
pub mod Running
