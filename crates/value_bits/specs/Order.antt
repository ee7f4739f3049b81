-- Members that two lists share.
use Rattle.std.specs.Prelude.{ℕ, List}
use Rattle.std.specs.List.{Contains}

-- some number is in both lists
abbrev pub Share : (xs ys : List ℕ) → Type 0
Share xs ys = (v : ℕ) × Contains xs v × Contains ys v
