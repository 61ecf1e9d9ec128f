pub mod Maps
pub mod RowLaws
pub mod CaseLaws
pub mod MarkLaws
pub mod Accepts
pub mod Acceptance
pub mod ReadParts
pub mod Aheads
mod Matches
mod Courses
mod Finishing
mod Subjects
mod Stepping
mod Opened
mod Openings
