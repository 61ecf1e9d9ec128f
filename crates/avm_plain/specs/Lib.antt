pub mod Board
pub mod Input
pub mod Outcome
pub mod Part
pub mod Peers
pub mod Replay
pub mod Shown
pub mod Step
