pub mod ArmedUnits
pub mod FirstTickets
pub mod Places
pub mod OneSession
