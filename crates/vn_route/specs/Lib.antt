pub mod Keys
pub mod Stacks
pub mod Wanted
pub mod Lengths
pub mod Behind
