pub mod Schedule
pub mod Sofar
pub mod Read
pub mod Readings
