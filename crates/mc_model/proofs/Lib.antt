mod Cases
pub mod ItemFacts
