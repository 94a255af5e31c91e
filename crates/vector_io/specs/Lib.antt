pub mod Addresses
pub mod Status
pub mod Plans
pub mod Runs
