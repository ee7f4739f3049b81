pub mod StatusWord
pub mod ReturnLaw
pub mod BackLaw
