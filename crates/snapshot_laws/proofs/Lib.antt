pub mod Clocks
pub mod Alone
