mod Long
mod Judged
mod Checked
mod Meanings
mod Later
mod Runs
