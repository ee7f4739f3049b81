pub mod FactLemmas
pub mod EvenWords
pub mod StateForms
pub mod Orders
pub mod Covering
