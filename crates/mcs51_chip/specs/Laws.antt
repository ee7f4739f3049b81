-- What the formats of the chip lead to, one of them for each number that the chip may read, and what its steps lead to.
use Rattle.std.specs.Prelude.{◌≡◌, ◌==◌, ◌++◌, ◌∷◌, ℕ, [], All, List, Option, Some, length, true}
use Rattle.std.specs.Int.{bit_at}
use Rattle.image.specs.Image.{IsByte, byte_at}
use Rattle.mcs51_decode.specs.declared.instr.BitTest.TheVariants.{Clear, Set, SetAndClear}
use Rattle.mcs51_decode.specs.declared.instr.External.{External as AnExternal}
use Rattle.chip_numbers.specs.Single.{Single}
use Rattle.choosing.specs.Asking.{IsOption}
use Rattle.choosing.specs.Gives.{Gives}
use Rattle.choosing.specs.Outcome.Outcome.{Next}
use Rattle.mcs51_chip.specs.declared.place.Access.{Access}
use Rattle.mcs51_chip.specs.declared.place.Access.TheVariants.{Code, External}
use Rattle.mcs51_chip.specs.declared.place.Address.{Address}
use Rattle.mcs51_chip.specs.declared.state.ChipState.{ChipState}
use Rattle.mcs51_chip.specs.Leading.{IsOfOne, MayBeAt, MayDivide, MayLead, MayPush, MayRead, MayReadCode, MayReadExternal, popped_into, pushed_from}
use Rattle.mcs51_chip.specs.Memory.{reads, write, writes}
use Rattle.mcs51_chip.specs.Registers.{with_accumulator}
use Rattle.mcs51_chip.specs.State.{IsChipState}
use Rattle.mcs51_chip.specs.Step.{Outcome, Step, branched, cleared, dividing, external_reads, jumping_on_bit, moving, popping, pushing, reading, reading_code, reading_external, step_of, updating, writing_external}

-- What the formats of instructions come to, as relations in which no choices stand (`specs/Leading.antt`).
pub record FormatsLead : Type 0 where
  pub reading : (s : ChipState) (before : List Access) (address : Address) (leads : ℕ → ChipState)
      → Gives (IsOfOne (MayRead s address) (λ x. (before ++ reads address, leads x))) (reading s before address leads)
  pub updating : (s : ChipState) (before : List Access) (address : Address) (leads : ℕ → ChipState)
      → Gives (IsOfOne (MayRead s address) (λ x. (before ++ reads address ++ writes address, leads x)))
      (updating s before address leads)
  pub moving : (s : ChipState) (before : List Access) (from to : Address)
      → Gives (IsOfOne (MayRead s from) (λ x. (before ++ reads from ++ writes to, write to x s)))
      (moving s before from to)
  pub clearing : (s : ChipState) (address : Address) (place rel : ℕ)
      → Gives (IsOfOne (MayRead s address) (cleared s address place rel))
      (jumping_on_bit s SetAndClear address place rel)
  pub set : (s : ChipState) (address : Address) (place rel : ℕ)
      → Gives (IsOfOne (MayRead s address) (λ x. (reads address, branched (bit_at x place == 1) rel s)))
      (jumping_on_bit s Set address place rel)
  pub clear : (s : ChipState) (address : Address) (place rel : ℕ)
      → Gives (IsOfOne (MayRead s address) (λ x. (reads address, branched (bit_at x place == 0) rel s)))
      (jumping_on_bit s Clear address place rel)
  pub pushing : (s : ChipState) (direct : ℕ)
      → Gives (IsOfOne (MayPush (direct == 0x81) s direct) (pushed_from s direct)) (pushing s direct)
  pub popping : (s : ChipState) (direct : ℕ)
      → Gives (IsOfOne (IsOption (direct == 0x81) 2) (popped_into s direct)) (popping s direct)
  pub code : (image : List (Option ℕ)) (s : ChipState) (at : ℕ)
      → Gives (IsOfOne (MayReadCode (byte_at image at)) (λ x. (Code at ∷ [], with_accumulator x s)))
      (reading_code image s at)
  pub external_read : (s : ChipState) (external : AnExternal)
      → Gives (MayReadExternal s external) (reading_external s external)
  pub external_write : (s : ChipState) (external : AnExternal)
      → Gives (IsOfOne (MayBeAt s external) (λ at. (external_reads s external ++ External true at ∷ [], s)))
      (writing_external s external)
  pub dividing : (s : ChipState) → Gives (MayDivide (s.b == 0) s) (dividing s)

-- What a step leads to, as a relation in which no choices stand (`specs/Leading.antt`). A step needs a front of the choices and
-- leaves the others, and no list of choices has two fronts with a step. It keeps the form of states, where the image has 65536
-- places, each with a byte or with none.
pub record StepLaws : Type 0 where
  pub lead : (image : List (Option ℕ)) (s : ChipState) → length image ≡ 65536 → All IsByte image
      → Gives (MayLead image s) (step_of image s)
  pub front : (image : List (Option ℕ)) (s : ChipState) (choices rest : List ℕ) (outcome : Outcome)
      → step_of image s choices ≡ Some (outcome, rest)
      → (front : List ℕ) × (choices ≡ front ++ rest) × Step image s front outcome
  pub onward : (image : List (Option ℕ)) (s : ChipState) (front rest : List ℕ) (outcome : Outcome)
      → Step image s front outcome → step_of image s (front ++ rest) ≡ Some (outcome, rest)
  pub one : (image : List (Option ℕ)) (s : ChipState) (front other rest more : List ℕ) (outcome another : Outcome)
      → front ++ rest ≡ other ++ more → Step image s front outcome → Step image s other another
      → (front ≡ other) × (outcome ≡ another)
  pub keep : (image : List (Option ℕ)) (s t : ChipState) (choices : List ℕ) (items : List Single) → length image ≡ 65536
      → All IsByte image → IsChipState s → Step image s choices (Next items t) → IsChipState t
