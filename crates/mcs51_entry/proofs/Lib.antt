pub mod Levels
pub mod ComingLemmas
pub mod Relations
pub mod HandingLemmas
pub mod EntryLemmas
