pub mod Return
pub mod Laws
