pub mod Whole
pub mod Watches
