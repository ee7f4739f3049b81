pub mod AcceptedLemmas
pub mod ClosedLemmas
pub mod ExitsLemmas
pub mod TableLemmas
pub mod WalkLemmas
