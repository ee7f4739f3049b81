pub mod AnyBehind
pub mod Windows
pub mod ItemTests
pub mod LeastItems
pub mod TextLemmas
