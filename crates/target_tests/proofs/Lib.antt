pub mod OneSession
