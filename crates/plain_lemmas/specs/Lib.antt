pub mod AnyOf
pub mod Below
pub mod Cases
pub mod Members
pub mod Orders
pub mod Small
