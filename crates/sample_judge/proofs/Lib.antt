mod Counted
mod Drafting
mod Exporting
mod Replies
mod Saying
mod Stages
mod Segmented
mod Numbered
