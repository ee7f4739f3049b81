pub mod Analysis
pub mod Orderly
pub mod Table
