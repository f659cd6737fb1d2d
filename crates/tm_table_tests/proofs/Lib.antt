mod Pairs
mod Sampling
