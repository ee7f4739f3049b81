-- What a step of the emulator gives, and what that stands for.
use Rattle.std.specs.Prelude.{◌≡◌, ℕ, Option, None, Some, Result, Ok, Err, List, [], ◌∷◌, ◌++◌}
use Rattle.arrayvec.specs.ArrayVec.{ArrayVec}
use Rattle.call_context.specs.declared.shown.Item.{Item}
use Rattle.call_context.specs.declared.shown.Item.TheVariants as items
use Rattle.call_context.specs.declared.shown.Set.{Set}
use Rattle.call_context.specs.declared.shown.Set.TheVariants.{B, W}
use Rattle.chip_numbers.specs.declared.space.Space.{Space}
use Rattle.chip_numbers.specs.declared.space.Space.TheVariants.{Mem, Ram, Sfr, Xram, Code}
use Rattle.chip_numbers.specs.Single.{Single}
use Rattle.chip_numbers.specs.Single.Single.{Instr as Ran, Edge, Access as Accessed, Stack}
use Rattle.choosing.specs.Outcome.Outcome.{Wild}
use Rattle.choosing.specs.Choosing.{asked_as}
use Rattle.mcs51_decode.specs.declared.instr.Instr.{Instr}
use Rattle.mcs51_decode.specs.declared.refusal.NoInstr.{NoInstr}
use Rattle.mcs51_chip.specs.declared.place.Access.{Access}
use Rattle.mcs51_chip.specs.declared.state.ChipState.{ChipState}
use Rattle.mcs51_chip.specs.Step.{Effect, Outcome, effect_of, stepped}
use Rattle.value_set.specs.Summing.{single}
use Rattle.mcs51_emu.specs.declared.done.Accesses.{Accesses}
use Rattle.mcs51_emu.specs.declared.done.Done.{Done}

-- accesses in their order
abbrev pub shown : Option Access → List Access
shown None = []
shown (Some access) = access ∷ []

abbrev pub listed : Accesses → List Access
listed accesses = shown accesses.first ++ shown accesses.second ++ shown accesses.third

-- what an instruction comes to
abbrev pub effected : ChipState → Accesses → Effect
effected t accesses = (listed accesses, t)

-- an instruction leads from s to t, and of these choices those are left; with no answer they end before a question
abbrev pub Performs : Instr → ChipState → List ℕ → Option Accesses → ChipState → List ℕ → Type 0
Performs instr s choices result t left =
    (image : List (Option ℕ)) → asked_as (effected t) result left ≡ effect_of image s instr choices

abbrev pub ran : ℕ → Option (ArrayVec ℕ) → List Single
ran pc None = []
ran pc (Some bytes) = Ran pc bytes.items ∷ []

-- what a step from s to t that is done comes to
abbrev pub finished : (s t : ChipState) → Done → Outcome
finished s t done = stepped s (ran s.pc done.bytes) (effected t done.accesses)

-- and what one comes to that may have no instruction
abbrev pub outcome_of : (s t : ChipState) → Result Done NoInstr → Outcome
outcome_of s t (Ok done) = finished s t done
outcome_of s t (Err none) = Wild none

-- an address as a set of one value: RAM and special function registers have addresses of a byte
abbrev pub set_of : Space → ℕ → Set
set_of Mem at = W (single at)
set_of Ram at = B (single at)
set_of Sfr at = B (single at)
set_of Xram at = W (single at)
set_of Code at = W (single at)

-- the item that shows one single item, with sets of one value
abbrev pub item_of : Single → Item
item_of (Ran pc bytes) = items.Instr pc bytes
item_of (Edge origin target) = items.Edge origin target
item_of (Accessed pc space write size address) = items.Access pc space write size (set_of space address)
item_of (Stack pc sp) = items.Stack pc (B (single sp))
