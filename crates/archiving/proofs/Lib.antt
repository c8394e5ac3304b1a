mod Written
mod Lows
mod Listed
mod Held
mod Cases
mod Reaching
mod Quarters
