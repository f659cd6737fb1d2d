pub mod Told
pub mod Positions
pub mod Ends
