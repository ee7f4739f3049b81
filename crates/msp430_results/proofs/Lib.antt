pub mod FlagLemmas
pub mod Carries
pub mod Rows
pub mod Differences
pub mod Twice
pub mod Twos
