pub mod Lengths
pub mod Behind
pub mod Leaving
pub mod Choice
