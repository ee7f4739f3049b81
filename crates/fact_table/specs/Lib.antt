pub mod Exchange
pub mod Named
pub mod Seats
