pub mod Asking
pub mod Choosing
pub mod Fronts
pub mod Gives
pub mod Outcome
