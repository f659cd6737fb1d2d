pub mod Endings
mod Cases
