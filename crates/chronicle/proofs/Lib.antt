pub mod PrefixLemmas
pub mod Rights
pub mod Parts
pub mod Worlds
pub mod Views
pub mod Moves
pub mod Rests
