pub mod Jumps
pub mod JumpLaws
pub mod Bits
pub mod BitLaws
