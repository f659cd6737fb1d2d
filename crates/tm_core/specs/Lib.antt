pub mod Numbers
pub mod Steps
pub mod Cells
pub mod Shown
