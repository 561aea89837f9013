pub mod Tallies
pub mod Parts
pub mod Nets
pub mod Leaving
pub mod Moves
pub mod Sound
pub mod Places
