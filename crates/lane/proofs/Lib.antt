pub mod Laying
pub mod Bytes
pub mod Shown
pub mod Wide
