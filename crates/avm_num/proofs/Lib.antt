pub mod Numbers
pub mod Fields
pub mod Loops
pub mod Walks
pub mod Writes
pub mod Lengths
pub mod Locals
pub mod Sizes
