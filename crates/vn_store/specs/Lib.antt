pub mod Rows
pub mod Variables
pub mod Held
pub mod Faults
