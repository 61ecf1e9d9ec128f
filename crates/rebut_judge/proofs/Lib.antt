pub mod Judged
pub mod Gone
