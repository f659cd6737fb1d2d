pub mod Lines
pub mod Tickets
pub mod Queues
pub mod Sound
