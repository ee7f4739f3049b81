pub mod OneJournal
pub mod TurnLemmas
