pub mod Counts
pub mod Answers
pub mod Transfers
pub mod Memory
pub mod Adapters
