mod PassLemmas
mod RangeLemmas
