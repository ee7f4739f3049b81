pub mod Accepted
pub mod Exits
pub mod Known
pub mod Refusal
pub mod Table
