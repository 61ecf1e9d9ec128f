pub mod Fillings
pub mod Seen
