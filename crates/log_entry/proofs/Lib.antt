pub mod Options
pub mod Wholes
pub mod PacketLaws
pub mod Contents
pub mod FrameLaws
pub mod Lengths
