pub mod Sealed
pub mod Steps
