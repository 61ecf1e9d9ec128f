pub mod Events
pub mod Again
