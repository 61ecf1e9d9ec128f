pub mod Bases
pub mod Searching
pub mod ItemParts
