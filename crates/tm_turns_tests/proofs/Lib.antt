pub mod Calling
mod Launched
mod Ones
