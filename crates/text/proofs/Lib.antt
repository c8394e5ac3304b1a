pub mod Decimals
pub mod Numbers
pub mod Pairs
pub mod LineLemmas
pub mod WordLemmas
pub mod Scans
