-- The definitions, lowest first.
pub mod EarlyLogs
pub mod Finding
pub mod KnownChunks
pub mod KnownCut
pub mod LifeBlocks
pub mod Losing
pub mod Merged
pub mod MountBeginnings
pub mod Padding
pub mod SameImages
pub mod SameTold
pub mod SealedLines
pub mod UnitChunks
pub mod OpenedChunks
pub mod UnitPrograms
