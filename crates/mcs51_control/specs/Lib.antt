pub mod Laws
pub mod Returning
