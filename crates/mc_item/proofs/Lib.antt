mod Cases
pub mod ClassFacts
pub mod ExpiryFacts
pub mod KeyFacts
pub mod NumberFacts
