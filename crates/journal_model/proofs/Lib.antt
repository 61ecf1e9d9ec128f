pub mod Gates
pub mod Parts
pub mod Judging
pub mod Locals
pub mod Prefixes
pub mod Cursors
pub mod Signing
pub mod Fitting
