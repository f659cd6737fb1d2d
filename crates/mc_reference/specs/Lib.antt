pub mod Deed
pub mod Found
