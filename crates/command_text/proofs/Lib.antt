pub mod Saying
pub mod Counts
pub mod Shown
