pub mod BitLemmas
pub mod Swapped
pub mod Moves
pub mod Parts
pub mod StatusLaw
pub mod SingleLaw
