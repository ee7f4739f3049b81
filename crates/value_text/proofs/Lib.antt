pub mod FormLemmas
pub mod ListLemmas
pub mod ReadLemmas
pub mod BitLemmas
pub mod RangeLemmas
pub mod RamLemmas
pub mod MemoryLemmas
