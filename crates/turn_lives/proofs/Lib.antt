pub mod Own
pub mod Events
