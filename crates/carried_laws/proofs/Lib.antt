pub mod SignedFit
pub mod Ascents
pub mod FewCarried
