pub mod CoordinateLaws
pub mod TowerLaws
pub mod CarriedLaws
