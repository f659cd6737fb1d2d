pub mod Questions
pub mod Asking
pub mod Noting
pub mod Turning
pub mod Laws
