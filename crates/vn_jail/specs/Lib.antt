pub mod Tree
pub mod Order
pub mod Kept
