pub mod HssAuthLaws
pub mod Puts
