-- Readers, the lines that they give and the versions that are kept for them.
pub mod Unread
pub mod Kept
pub mod SameReaders
pub mod Lines
pub mod Snapshots
pub mod Counting
