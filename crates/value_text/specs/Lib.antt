pub mod Runs
pub mod Sets
pub mod Words
pub mod Bits
pub mod Ranges
pub mod Members
pub mod Cells
pub mod Memories
