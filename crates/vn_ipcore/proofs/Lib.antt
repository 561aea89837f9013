pub mod Seen
pub mod Back
pub mod Parted
pub mod Linked
pub mod Sent
pub mod Announced
pub mod Up
pub mod Resolved
