pub mod Lanes
pub mod Places
pub mod Claims
