pub mod Views
pub mod Prefixes
pub mod Handles
pub mod Steps
pub mod Rule
pub mod Inside
