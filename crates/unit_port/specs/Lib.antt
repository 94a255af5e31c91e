pub mod Armed
pub mod Log
pub mod Unit
pub mod Commands
pub mod Did
