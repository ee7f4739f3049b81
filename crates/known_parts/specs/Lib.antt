pub mod Bits
pub mod Options
pub mod Pointwise
pub mod Parts
pub mod CellForms
