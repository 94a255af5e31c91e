-- Worlds made by hand, on the small drive.
pub mod Steps
pub mod Simple
pub mod Collected
pub mod Wrong
pub mod Overwritten
pub mod Stray
pub mod Halted
pub mod Older
pub mod Crowded
pub mod Filled
pub mod Takers
pub mod Rewritten
