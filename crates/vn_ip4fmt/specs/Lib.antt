pub mod Heads
pub mod Datagram
pub mod Checksum
