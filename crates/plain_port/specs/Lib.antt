pub mod Sectors
pub mod Plain
