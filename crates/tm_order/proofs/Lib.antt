pub mod Rising
pub mod Running
