pub mod Names
pub mod Ports
pub mod Kept
pub mod Stacks
pub mod Plans
