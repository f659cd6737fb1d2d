pub mod Launches
pub mod StateView
pub mod Represents
pub mod Asking
pub mod Opened
pub mod PlacedObjects
pub mod Resuming
