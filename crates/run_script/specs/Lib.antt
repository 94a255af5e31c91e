pub mod Lines
pub mod Reading
pub mod Heard
pub mod Said
pub mod Turns
pub mod Names
