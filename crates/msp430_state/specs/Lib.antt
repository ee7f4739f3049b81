pub mod Status
pub mod Facts
pub mod Known
pub mod Holding
pub mod Forms
pub mod FormFacts
pub mod Laws
