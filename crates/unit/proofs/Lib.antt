pub mod Settled
pub mod Bytes
pub mod Planned
