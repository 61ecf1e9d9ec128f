pub mod Leaves
pub mod Rolls
pub mod RoundTrip
