pub mod LengthFacts
pub mod Made
pub mod Records
