pub mod CacheFacts
pub mod IndexFacts
pub mod PutFacts
pub mod Steps
pub mod Settled
pub mod Outcomes
