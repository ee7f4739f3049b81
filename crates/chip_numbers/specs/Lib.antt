pub mod Numbers
pub mod Single
