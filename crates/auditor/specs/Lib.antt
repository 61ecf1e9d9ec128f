pub mod Hashes
pub mod Tests
pub mod Covering
