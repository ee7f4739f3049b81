pub mod Decimals
pub mod Nodes
pub mod Outside
pub mod Tests
