pub mod Echoing
pub mod Playing
