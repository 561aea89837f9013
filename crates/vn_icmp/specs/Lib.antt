pub mod Stacks
pub mod Which
