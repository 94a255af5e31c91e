pub mod LineBits
pub mod Orders
pub mod Sets
pub mod Sizes
pub mod LiveLemmas
pub mod UnitSets
