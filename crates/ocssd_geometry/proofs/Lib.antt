pub mod Acceptance
pub mod Packing
pub mod Spelling
