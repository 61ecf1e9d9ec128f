pub mod Judged
pub mod Bases
pub mod Gates
pub mod Builts
