pub mod Start
pub mod Other
pub mod Talk
