pub mod Keygen
