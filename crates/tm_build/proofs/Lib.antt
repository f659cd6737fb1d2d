pub mod Distinct
pub mod Parts
pub mod Dealt
pub mod Holding
pub mod HeldBy
