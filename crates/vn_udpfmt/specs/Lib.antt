pub mod Header
pub mod Pseudo
pub mod Datagram
pub mod Written
