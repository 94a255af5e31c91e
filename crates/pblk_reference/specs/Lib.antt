pub mod Ready
pub mod Line
pub mod Words
pub mod Reading
