pub mod Entries
pub mod Window
pub mod Inside
