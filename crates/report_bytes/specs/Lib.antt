pub mod ClosedWorks
pub mod Counting
pub mod Deepest
pub mod Opens
pub mod Report
pub mod Shows
pub mod StackLines
pub mod Stacks
