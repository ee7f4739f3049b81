pub mod Lists
pub mod Totals
pub mod Moves
pub mod Comings
pub mod Seats
