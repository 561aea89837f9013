pub mod Renewing
pub mod Headers
pub mod Flags
