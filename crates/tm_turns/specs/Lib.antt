pub mod Whole
pub mod Going
pub mod Resting
pub mod Opening
pub mod Making
pub mod Closing
pub mod Laws
pub mod Driving
