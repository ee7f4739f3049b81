pub mod CircleLemmas
pub mod LegLemmas
pub mod LevelLemmas
pub mod ListLemmas
pub mod OrderLemmas
pub mod SearchLemmas
pub mod TurnLemmas
pub mod WalkLemmas
