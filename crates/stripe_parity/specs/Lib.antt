pub mod ParityBytes
pub mod ParityFile
pub mod Puts
pub mod Rebuilding
pub mod Refusals
pub mod Sound
pub mod Xors
