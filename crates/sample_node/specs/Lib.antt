pub mod Progresses
pub mod Node
