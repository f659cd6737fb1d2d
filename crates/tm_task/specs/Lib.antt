pub mod Going
pub mod Ours
pub mod Progressing
pub mod Rules
pub mod Runs
pub mod Stages
