pub mod Choice
pub mod Tournament
