pub mod RegisterLemmas
pub mod OutsideLemmas
