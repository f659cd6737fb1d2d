pub mod LineFacts
pub mod Spellings
pub mod Steps
pub mod Taking
pub mod Unfinished
pub mod Between
pub mod ReadFacts
pub mod Piecewise
pub mod Plainly
mod Cases
