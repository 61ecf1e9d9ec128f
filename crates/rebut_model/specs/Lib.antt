pub mod Bound
pub mod Texts
pub mod Rebuts
