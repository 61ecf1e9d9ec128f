pub mod Lows
pub mod SignedItems
