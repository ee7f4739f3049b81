pub mod SetLemmas
pub mod StatusLemmas
pub mod Accumulations
pub mod Products
pub mod Changes
pub mod StatusWrites
pub mod BitWrites
