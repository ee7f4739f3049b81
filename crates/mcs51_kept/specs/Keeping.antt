-- Which steps of the MCS-51 keep promises.
use Rattle.std.specs.Prelude.{◌≡◌, ℕ, true, Option, List}
use Rattle.choosing.specs.Outcome.Outcome.{Next, Wild as Leaves}
use Rattle.mcs51_chip.specs.Step.{Outcome}
use Rattle.mcs51_kept.specs.Sites.{spoken}
use Rattle.promises.specs.Keeping.{keeps}
use Rattle.promises.specs.declared.promise.Promise.{Promise}

-- What a state leads to keeps the promises. It leaves the model only where no instruction stands, and no promise speaks of that.
abbrev pub IsKept : (image : List (Option ℕ)) → List Promise → Outcome → Type 0
IsKept image promises (Next items t) = keeps (spoken image) promises items ≡ true
IsKept image promises (Leaves refusal) = Unit {0}
