pub mod Fitting
pub mod Turning
pub mod Schedules
pub mod Fronts
