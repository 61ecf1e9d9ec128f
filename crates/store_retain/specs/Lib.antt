pub mod Retaining
