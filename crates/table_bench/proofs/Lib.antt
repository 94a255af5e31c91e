pub mod Unwritten
mod Waiting
