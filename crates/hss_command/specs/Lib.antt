pub mod Ends
pub mod Said
pub mod Inputs
pub mod Outcomes
pub mod Widen
pub mod Narrow
