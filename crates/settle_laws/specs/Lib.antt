-- The definitions.
pub mod Quiet
