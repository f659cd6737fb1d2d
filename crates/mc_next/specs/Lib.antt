pub mod Parts
pub mod Clients
pub mod Runs
pub mod Works
pub mod Steps
pub mod Sessions
pub mod Deeds
pub mod Numbers
