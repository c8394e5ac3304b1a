pub mod Coordinates
pub mod Tower
pub mod Carried
