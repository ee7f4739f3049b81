pub mod Cells
pub mod CellLists
pub mod CellWalks
pub mod Words
pub mod Values
pub mod Laws
pub mod RelationFacts
pub mod Representing
