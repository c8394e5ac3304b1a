pub mod Calls
pub mod Bodies
pub mod Turning
pub mod Units
pub mod Benches
