pub mod Traces
pub mod Lines
pub mod Listings
pub mod Parts
