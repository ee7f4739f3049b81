pub mod Written
pub mod OnlyBytes
pub mod Gathers
pub mod Moves
pub mod Sums
pub mod Changes
pub mod Doing
