pub mod FileMap
pub mod RunFiles
