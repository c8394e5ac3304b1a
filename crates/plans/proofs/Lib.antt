pub mod Counts
pub mod Accepted
pub mod Turns
