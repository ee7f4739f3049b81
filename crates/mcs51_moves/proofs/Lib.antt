pub mod Written
pub mod Moved
pub mod Masked
pub mod Exchanged
