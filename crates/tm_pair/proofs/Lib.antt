pub mod Calling
pub mod Handing
pub mod Keeping
pub mod Lists
pub mod Nothing
mod Opening
mod Owing
mod Returning
pub mod Standing
pub mod Stepping
mod Tabling
mod Telling
