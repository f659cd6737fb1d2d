pub mod Idle
pub mod Courses
pub mod Tickets
