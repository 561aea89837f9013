pub mod Words
pub mod Lines
pub mod Inputs
pub mod Outputs
pub mod Endings
pub mod Runs
