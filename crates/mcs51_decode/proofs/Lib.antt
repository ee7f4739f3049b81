pub mod RowLemmas
pub mod BytesLemmas
pub mod AnswerLemmas
pub mod UniqueLemmas
pub mod AgainLemmas
mod ByteLists
