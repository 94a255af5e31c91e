mod Sums
mod SumSteps
mod Counts
mod Takes
mod Freed
mod Unfreed
mod Still
mod Steps
mod Kept
mod KeptEvents
mod KeptLines
mod KeptTakes
mod KeptStripes
mod KeptVictims
mod Run
pub mod Ends
pub mod Most
