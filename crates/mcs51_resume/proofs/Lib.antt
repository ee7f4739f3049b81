mod Masks
mod Numbers
mod PlaceLemmas
mod Psw
mod FactLemmas
mod CellLemmas
mod Covering
