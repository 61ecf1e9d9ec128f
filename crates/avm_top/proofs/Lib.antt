mod Names
mod Meant
