pub mod Outputs
pub mod Classes
pub mod Laws
