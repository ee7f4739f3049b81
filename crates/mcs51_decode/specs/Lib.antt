pub mod Table
pub mod Encoding
pub mod Standing
pub mod Decoding
pub mod Targets
pub mod Fitting
pub mod Laws
pub mod NumberFacts
