pub mod Values
pub mod Stacks
pub mod Products
pub mod CodeReads
pub mod ExternalReads
