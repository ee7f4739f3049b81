pub mod BitRules
pub mod Holding
pub mod HoldingFacts
pub mod InstructionLaws
pub mod Laws
pub mod Results
pub mod Rules
pub mod StatusBytes
