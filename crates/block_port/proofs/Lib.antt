pub mod OwnLemmas
pub mod PortLemmas
pub mod Ordering
pub mod Rising
pub mod PlacedLines
