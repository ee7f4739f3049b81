pub mod Spoken
pub mod Sentences
pub mod Text
pub mod Told
pub mod Keeping
pub mod Breaking
