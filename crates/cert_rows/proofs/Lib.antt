pub mod CountdownLemmas
