pub mod History
pub mod Hss
pub mod HssFile
pub mod Roll
