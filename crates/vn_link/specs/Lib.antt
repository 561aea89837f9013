pub mod Macs
pub mod Frames
pub mod Packets
