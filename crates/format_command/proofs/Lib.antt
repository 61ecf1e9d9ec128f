pub mod Bootings
pub mod Configs
pub mod CutFiles
pub mod Ending
pub mod KeyFiles
pub mod Makings
pub mod Meanings
pub mod Taking
