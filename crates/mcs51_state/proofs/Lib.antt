pub mod LevelLemmas
pub mod FactLemmas
pub mod StateForms
pub mod Orders
pub mod Covering
mod BitReads
mod DoingSo
mod ReadForms
mod JumpTargets
pub mod RelationLists
mod RamReads
mod RegisterReads
mod ReadRelations
mod Shown
mod Standing
mod Together
mod WrittenBits
mod WrittenCells
mod WrittenForms
mod WrittenParts
mod Touching
