pub mod Audited
pub mod Hearing
