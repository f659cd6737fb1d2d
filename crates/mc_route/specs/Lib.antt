pub mod Places
pub mod Desks
pub mod DeskLaws
pub mod Plans
pub mod Joins
pub mod Launches
pub mod ClassLaunches
pub mod Laws
