pub mod PromiseLemmas
