pub mod Faults
pub mod Files
pub mod MemoryFiles
pub mod MemorySink
pub mod Real
pub mod Sink
