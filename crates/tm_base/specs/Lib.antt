pub mod Causes
pub mod Links
pub mod Listening
pub mod Memory
pub mod Plan
pub mod StdEdge
pub mod Visible
