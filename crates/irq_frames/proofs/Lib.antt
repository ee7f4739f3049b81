pub mod Kept
pub mod Lists
pub mod RangeLemmas
pub mod Resumption
pub mod Rewritten
pub mod Walking
