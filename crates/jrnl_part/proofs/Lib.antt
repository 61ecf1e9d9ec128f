pub mod CarriedLaws
pub mod Sizes
pub mod Places
pub mod Boot
pub mod Counting
