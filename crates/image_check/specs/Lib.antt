pub mod Lines
pub mod Right
pub mod Surveys
pub mod Bearers
pub mod Counting
pub mod Text
pub mod Tidying
pub mod Makes
