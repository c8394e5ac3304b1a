pub mod Calls
pub mod Sound
pub mod Book
pub mod Law
