mod Exchanging
mod Openings
mod Storing
