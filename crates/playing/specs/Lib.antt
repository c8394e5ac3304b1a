pub mod Calls
pub mod Commands
pub mod Setups
pub mod Memory
pub mod Answers
pub mod Runs
