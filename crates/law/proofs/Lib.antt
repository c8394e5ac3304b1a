pub mod Holds
pub mod Laws
pub mod Pushed
pub mod Loop
pub mod Whole
