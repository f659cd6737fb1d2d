mod Asks
mod Busy
mod Chains
mod Doing
mod MadeTurns
mod Places
mod Ranges
mod Ranks
mod Resumed
pub mod Theirs
mod Unpassed
mod WholeTurn
mod Worlds
