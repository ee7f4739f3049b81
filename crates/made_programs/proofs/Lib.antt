pub mod Digits
pub mod RecordLines
pub mod Accepted
pub mod Stretches
pub mod Programs
pub mod Sizes
pub mod Denoted
