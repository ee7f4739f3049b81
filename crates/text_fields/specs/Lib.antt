pub mod Spelling
pub mod Numbers
pub mod Fields
pub mod Lists
pub mod Lines
pub mod Fronts
pub mod Items
