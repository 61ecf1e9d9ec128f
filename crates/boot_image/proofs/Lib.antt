pub mod Bells
pub mod Boots
pub mod Begun
pub mod Paged
