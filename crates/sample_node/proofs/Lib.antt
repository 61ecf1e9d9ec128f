pub mod Owns
mod Seals
mod Turns
