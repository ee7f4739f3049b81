pub mod Drafting
pub mod Here
pub mod Planning
pub mod Ranges
pub mod Stepping
