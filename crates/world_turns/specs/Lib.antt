pub mod Comes
