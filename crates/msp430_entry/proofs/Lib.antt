pub mod ComingLemmas
pub mod HandingLemmas
pub mod EntryLemmas
pub mod ShowingLemmas
