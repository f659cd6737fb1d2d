pub mod Driving
pub mod Launching
