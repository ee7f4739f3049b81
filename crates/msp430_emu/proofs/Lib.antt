pub mod DecimalLemmas
pub mod DoubleLemmas
pub mod RamLemmas
