pub mod Whole
pub mod FreedWorlds
pub mod NextEvents
pub mod Opened
pub mod SlotBlocks
pub mod LookedUp
