pub mod Places
pub mod Facts
pub mod Parts
pub mod Nodes
pub mod States
pub mod Outside
pub mod Fronts
