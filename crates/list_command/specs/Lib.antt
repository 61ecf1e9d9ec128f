pub mod Ends
pub mod Listing
pub mod Meaning
pub mod Numbers
pub mod Outcomes
