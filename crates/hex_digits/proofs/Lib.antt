pub mod ByteDigits
mod DigitsLemmas
