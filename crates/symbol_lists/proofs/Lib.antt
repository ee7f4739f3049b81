pub mod Text
pub mod Later
