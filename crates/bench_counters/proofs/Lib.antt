pub mod Calling
pub mod Counts
pub mod Orders
pub mod Opening
