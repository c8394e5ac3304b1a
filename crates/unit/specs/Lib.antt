pub mod Works
pub mod View
pub mod Held
pub mod Answers
pub mod Lanes
