pub mod Parts
pub mod Live
pub mod Kept
pub mod Served
pub mod Resumed
pub mod Leaves
pub mod Opens
