pub mod Shelves
pub mod Clerks
pub mod Laws
