pub mod Places
pub mod Benches
pub mod Written
