pub mod Moments
pub mod Readied
pub mod OpeningLosses
pub mod FirstArms
pub mod FirstWorks
pub mod PutTogether
pub mod FirstTickets
pub mod OpenedParts
pub mod LogLines
pub mod OwnClaims
pub mod WornAnswers
pub mod Fills
pub mod SessionSteps
pub mod Putting
pub mod Syncing
pub mod SectorCounts
pub mod ReadAnswers
pub mod WriteSteps
mod ClosingLost
mod ClosingParts
mod ClosingHistory
pub mod ClosingAlone
mod ClosingWorlds
pub mod AllBack
