pub mod Lists
pub mod Mails
pub mod Worlds
