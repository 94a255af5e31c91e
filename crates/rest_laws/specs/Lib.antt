-- The definitions, lowest first.
pub mod Tidy
pub mod BehindLines
pub mod NewestOpened
pub mod Untroubled
pub mod RoomSteps
pub mod EngineSteps
pub mod RestingMounts
pub mod Copies
pub mod AtWork
pub mod TidyMounts
pub mod RoomRuns
pub mod Work
