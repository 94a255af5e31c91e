pub mod Own
pub mod Port
pub mod ByPlace
