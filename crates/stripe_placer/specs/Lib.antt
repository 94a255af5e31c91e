pub mod Entries
pub mod OpenLines
pub mod Placing
pub mod Units
pub mod Queues
pub mod Slots
pub mod Inside
pub mod NextUnits
