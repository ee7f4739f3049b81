pub mod SameItems
pub mod SameNodes
