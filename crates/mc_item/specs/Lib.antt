pub mod Classes
pub mod Expiry
pub mod Forms
pub mod Keys
pub mod Numbers
