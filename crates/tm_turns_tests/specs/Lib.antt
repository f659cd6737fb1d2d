pub mod Adding
pub mod Launching
