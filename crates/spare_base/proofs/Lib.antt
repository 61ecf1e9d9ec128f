pub mod BasePut
pub mod Pieces
pub mod SpareKinds
pub mod Reading
