pub mod Clauses
pub mod Ends
pub mod Loops
pub mod Pieces
pub mod Starts
