pub mod HeldWords
pub mod Facts
pub mod CellParts
pub mod Covering
pub mod Lists
pub mod Made
