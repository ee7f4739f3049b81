pub mod Alone
pub mod ImageText
pub mod Names
pub mod Record
pub mod Loading
pub mod Reading
pub mod Stages
pub mod TextFacts
