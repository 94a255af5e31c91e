pub mod Places
pub mod Sets
pub mod Counts
pub mod Tables
pub mod Sizes
pub mod Opened
pub mod RowsLemmas
