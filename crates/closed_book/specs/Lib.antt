pub mod BookFacts
pub mod Bounded
pub mod Broken
pub mod ClosedBook
