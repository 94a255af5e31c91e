pub mod Lists
pub mod Moves
pub mod Plays
pub mod Ends
