mod Tags
mod Laws
mod Seats
mod Moves
mod Placed
mod Scripts
mod Running
mod Whole
mod Hearing
pub mod RunLemmas
