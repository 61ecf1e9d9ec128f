mod Exchanges
mod Hearing
mod Times
