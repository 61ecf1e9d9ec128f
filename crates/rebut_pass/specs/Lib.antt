pub mod Reads
pub mod Items
pub mod Passing
pub mod Looking
