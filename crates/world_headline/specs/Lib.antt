pub mod Standing
pub mod Agreed
