pub mod Laws
pub mod Resume
