pub mod Answers
pub mod Descriptor
pub mod DriveChunk
pub mod Sound
pub mod Spelled
