pub mod FlagNumbers
pub mod WindowLemmas
pub mod StatusBits
pub mod CutSets
pub mod Outcomes
pub mod FactLemmas
