pub mod Nodes
pub mod Walking
pub mod Walks
pub mod Trees
pub mod Opened
