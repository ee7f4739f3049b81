pub mod FlagSets
pub mod InstructionLaws
pub mod Laws
pub mod Results
pub mod Rules
pub mod Words
