pub mod Filling
pub mod Parts
pub mod Quiet
pub mod Storing
