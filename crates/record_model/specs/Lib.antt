pub mod Released
pub mod Recording
pub mod Recorded
pub mod Turn
pub mod Standing
