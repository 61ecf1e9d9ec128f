pub mod FileMap
pub mod Printing
pub mod Reading
pub mod Tested
