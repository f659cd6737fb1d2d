pub mod Kept
pub mod Laws
pub mod Shard
pub mod Stays
