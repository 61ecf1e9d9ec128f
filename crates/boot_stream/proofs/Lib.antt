mod Booted
mod Coming
mod Streamed
