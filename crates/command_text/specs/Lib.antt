pub mod Names
pub mod Says
pub mod Certificates
