pub mod KnownLengths
pub mod LonePumps
pub mod LoneTakes
pub mod LoneCopies
pub mod FullRings
