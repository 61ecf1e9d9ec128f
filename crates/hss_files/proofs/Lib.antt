pub mod Tests
pub mod Judged
pub mod Valids
pub mod Endorsed
