pub mod Lists
pub mod Based
pub mod Still
pub mod Placed
