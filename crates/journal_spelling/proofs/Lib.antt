pub mod PartLaws
pub mod HeaderLaws
pub mod Gates
pub mod Fronts
