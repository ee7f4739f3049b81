pub mod Again
pub mod Kept
pub mod Printed
pub mod Sets
pub mod Sites
pub mod Text
