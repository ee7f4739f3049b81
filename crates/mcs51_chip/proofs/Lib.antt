pub mod Deciding
pub mod Forms
pub mod Fronts
pub mod Leads
pub mod Operands
