-- A short list that is kept in an array: its values in front, and zeros behind them.
use Rattle.std.specs.Prelude.{◌≡◌, ℕ, ◌-◌, ◌≤◌, List, ◌++◌, length, take, replicate}
use Rattle.std.proofs.Common.{length-take-le, sym, ◌∙◌, ap, arith}

-- the first len of the places are the list, the others are 0
pub record IsPadded (room len : ℕ) (places : List ℕ) : Type 0 where
  pub fits : len ≤ room
  pub full : length places ≡ room
  pub padded : places ≡ take len places ++ replicate (room - len) 0

-- the list alone gives back the places, and how many of them it takes
pub length-front : (room len : ℕ) (places : List ℕ) → IsPadded room len places → length (take len places) ≡ len
length-front room len places h = let short : len ≤ length places = omega arith in grind (arith, length-take-le)

pub places_back : (room len : ℕ) (places : List ℕ) → IsPadded room len places
    → take len places ++ replicate (room - length (take len places)) 0 ≡ places
places_back room len places h = ap (λ n. take len places ++ replicate (room - n) 0) (length-front room len places h) ∙ sym h.padded
