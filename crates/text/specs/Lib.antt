pub mod Text
pub mod Ahead
pub mod Tables
