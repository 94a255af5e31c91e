pub mod Steps
pub mod Cells
pub mod Kept
pub mod Handles
