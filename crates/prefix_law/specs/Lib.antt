pub mod Assembled
pub mod AfterMount
pub mod Cuts
pub mod PlacedAgain
