mod LogSteps
pub mod Units
