pub mod Rows
pub mod Opening
pub mod Counting
pub mod LineSets
pub mod Inside
