mod Arming
mod Befalls
mod ByArms
mod Changing
mod Counted
mod Disarming
pub mod Drives
mod Events
mod FallPlace
mod FallingOrder
mod FuseFalls
mod Fusing
mod Kept
mod Lists
mod Making
mod Seats
mod StopWordSteps
mod Taking
mod TallySteps
mod UnitChunks
mod UnitSteps
mod UnitWrites
pub mod Restoring
pub mod Unarmed
