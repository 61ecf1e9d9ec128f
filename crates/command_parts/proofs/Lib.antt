pub mod Cuts
mod Fronts
pub mod Joined
pub mod Printed
