-- What a step of the machine says of the chip.
use Rattle.std.specs.Prelude.{◌≡◌, ℕ, Option, None, Some, List, map}
use Rattle.chip_numbers.specs.Single.{Single}
use Rattle.choosing.specs.Outcome.Outcome.{Next, Wild as LeavesModel}
use Rattle.mcs51_chip.specs.declared.state.ChipState.{ChipState}
use Rattle.mcs51_chip.specs.Step.{step_of}
use Rattle.mcs51_emu.specs.declared.stepped.Stepped.{Stepped}
use Rattle.mcs51_emu.specs.declared.stepped.Stepped.TheVariants.{Met, Wild, NeedChoice}
use Rattle.mcs51_emu.specs.Listing.{item_of}

-- a step from s with these choices left, to t with that many left
abbrev pub Steps : List (Option ℕ) → ChipState → List ℕ → Stepped → ChipState → List ℕ → Type 0
Steps image s choices (Met items) t left =
    (singles : List Single) × (step_of image s choices ≡ Some (Next singles t, left)) × (items.items ≡ map item_of singles)
Steps image s choices (Wild cause) t left =
    (rest : List ℕ) × (step_of image s choices ≡ Some (LeavesModel cause, rest))
Steps image s choices NeedChoice t left = step_of image s choices ≡ None

-- no step is done
abbrev pub IsStill : Stepped → Type 0
IsStill (Met items) = ⊥
IsStill (Wild cause) = Unit {0}
IsStill NeedChoice = Unit {0}
