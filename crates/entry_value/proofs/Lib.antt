pub mod Anywhere
pub mod Bytes
mod Examples
pub mod Inside
pub mod Masks
pub mod Ordering
pub mod ReadForms
pub mod Reading
pub mod Scattering
pub mod Uniting
pub mod Values
pub mod Writing
