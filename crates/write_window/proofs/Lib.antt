pub mod Runs
pub mod Looks
pub mod Owners
pub mod EntriesLemmas
