pub mod Layout
pub mod Pages
pub mod Plays
pub mod Plans
