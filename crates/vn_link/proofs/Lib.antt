pub mod MacLaws
pub mod FrameLaws
pub mod PacketLaws
