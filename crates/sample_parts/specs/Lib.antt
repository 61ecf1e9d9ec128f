pub mod Drawn
pub mod Nodes
pub mod PeerLog
pub mod Peers
