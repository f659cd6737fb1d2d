pub mod Checking
pub mod Dealing
pub mod Holding
pub mod Refusing
