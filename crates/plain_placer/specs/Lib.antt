pub mod Fates
pub mod Rows
pub mod Fitting
pub mod LineView
pub mod PlacerView
