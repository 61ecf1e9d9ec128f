pub mod Long
pub mod Bytes
pub mod Judgements
pub mod Printing
pub mod Meanings
pub mod Ending
