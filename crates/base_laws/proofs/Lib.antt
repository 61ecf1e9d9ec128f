pub mod Records
pub mod Spelling
pub mod TrueKeeps
pub mod KeepCases
