pub mod Commands
pub mod LoadWords
pub mod Matched
pub mod Options
pub mod RunWords
pub mod Saying
pub mod ServeWords
pub mod Spelling
