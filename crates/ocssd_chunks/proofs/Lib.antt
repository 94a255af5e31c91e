pub mod BlockList
pub mod Descriptors
pub mod Held
pub mod Resets
pub mod SpelledChunk
pub mod Writes
mod Spelling
