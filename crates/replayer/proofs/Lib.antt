pub mod Contents
pub mod Kept
pub mod Settles
pub mod Judged
pub mod Short
pub mod Built
