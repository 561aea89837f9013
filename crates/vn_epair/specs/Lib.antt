pub mod Halves
pub mod Pairs
pub mod Line
pub mod Kept
