pub mod Seen
pub mod Back
pub mod Near
pub mod Named
