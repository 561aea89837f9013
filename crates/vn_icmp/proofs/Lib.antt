pub mod Stopped
pub mod First
