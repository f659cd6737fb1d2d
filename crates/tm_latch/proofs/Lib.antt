pub mod Pairs
pub mod Table
pub mod Changes
pub mod Chains
pub mod Listed
pub mod Latched
