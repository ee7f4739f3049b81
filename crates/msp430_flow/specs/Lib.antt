pub mod Standing
pub mod Labels
pub mod Running
pub mod Chip
pub mod Machine
pub mod Marks
pub mod Texts
pub mod LawsBelow
