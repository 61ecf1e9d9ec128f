mod FileReads
mod Taking
mod Leaving
mod Lent
mod Opens
mod Ending
