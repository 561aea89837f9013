pub mod Kept
pub mod Changes
pub mod Answers
pub mod Stacks
pub mod Listing
