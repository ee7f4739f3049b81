pub mod Front
pub mod Keeping
pub mod Laws
pub mod Sites
