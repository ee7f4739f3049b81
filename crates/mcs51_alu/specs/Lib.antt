pub mod Accumulator
pub mod Laws
pub mod LinearFacts
