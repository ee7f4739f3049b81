pub mod BlockLemmas
pub mod FieldLemmas
pub mod FillLemmas
pub mod PageLemmas
