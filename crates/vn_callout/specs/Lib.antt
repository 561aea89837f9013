pub mod Stacks
pub mod Calls
