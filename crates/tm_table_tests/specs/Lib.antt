pub mod Sample
pub mod Trying
