pub mod AheadLemmas
pub mod ExchangeLemmas
pub mod Sent
pub mod TurnLemmas
