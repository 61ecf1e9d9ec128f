pub mod PartLaws
pub mod Adding
pub mod Spells
pub mod Pages
