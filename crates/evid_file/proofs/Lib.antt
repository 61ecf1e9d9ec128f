pub mod EvidenceLaws
pub mod Joined
pub mod Forks
