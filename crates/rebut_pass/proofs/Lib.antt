pub mod OnDisk
pub mod ItemFacts
pub mod Passes
pub mod Looked
