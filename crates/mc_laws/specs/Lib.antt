pub mod Classes
pub mod Replies
pub mod Standing
pub mod Laws
