pub mod Fetches
pub mod Joining
