-- The facts where a suspended state goes on.
use Rattle.std.proofs.Common.{◌≡◌, ℕ, ◌+◌, ◌*◌, ◌%◌, ◌<◌, Bool, true, Option, None, Some, refl, sym, ap, ◌∙◌, inl, inr, arith}
use Rattle.std.specs.Prelude.{◌&&◌, if◌then◌else◌, not, nat_lt, slice_index}
use Rattle.std.proofs.lemmas.Bool.{and_parts, cond_both, not-true, or_cases}
use Rattle.entry_value.specs.Cells.{read}
use Rattle.irq_frames.specs.Ranges.{has_address}
use Rattle.mcs51_chip.specs.declared.state.ChipState.{ChipState}
use Rattle.mcs51_chip.specs.Registers.{bit_of}
use Rattle.mcs51_chip.specs.State.{IsChipState}
use Rattle.std.specs.Int.{bit_at}
use Rattle.mcs51_state.specs.declared.fact.CarryFact.{CarryFact}
use Rattle.mcs51_state.specs.declared.fact.Compared.{Compared}
use Rattle.mcs51_state.specs.declared.fact.Compared.TheVariants.{Accumulator, Ram}
use Rattle.mcs51_state.specs.declared.fact.LinearFact.{LinearFact}
use Rattle.mcs51_state.specs.Forms.{IsCarry, IsCompared, IsLinear}
use Rattle.mcs51_state.specs.Holding.{HoldsOfCarry, HoldsOfLinear, compared_in}
use Rattle.mcs51_state.specs.Known.{Known}
use Rattle.mcs51_state.specs.Places.{psw_place, suspended_of}
use Rattle.mcs51_state.specs.Under.{IsUnder}
use Rattle.mcs51_results.specs.InstructionLaws.{InstructionLaws}
use Rattle.mcs51_resume.specs.Resume.{accumulator_place, carry_resumed, is_compared_itself, is_ram_itself, linear_resumed}
use Rattle.irq_frames.specs.MaskFacts.{itself_read}
use Rattle.irq_frames.specs.Resuming.{is_itself}
use Rattle.plain_lemmas.specs.Small.{byte_alone}
use Rattle.mcs51_resume.proofs.Numbers.{ram_small, reads_ram, reads_status, same_alone}

-- WHAT IS WHAT IT WAS

-- the state where the interrupt came, and the one that its handler left
pub record IsLeft (f t : ChipState) (exit : Known) : Type 0 where
  pub suspended : IsChipState f
  pub under : IsUnder true exit t (Some f)

accumulator_is : (f t : ChipState) (exit : Known) → IsLeft f t exit → is_itself 255 accumulator_place exit.a.entry ≡ true → t.a ≡ f.a
accumulator_is f t exit left is =
    let (word, (small, same), number) = itself_read 8 (suspended_of f) accumulator_place t.a exit.a.entry is left.under.holds.parts.a.1 in
    let byte = left.suspended.a in
    number ∙ ap (λ n. n % 256) (same_alone word f.a small (omega (arith, byte)) same) ∙ byte_alone f.a byte

ram_is : (laws : InstructionLaws) (f t : ChipState) (exit : Known) → IsLeft f t exit → (at : ℕ) → at < 256
    → is_ram_itself exit at ≡ true → slice_index t.ram at ≡ slice_index f.ram at
ram_is laws f t exit left at inside is = elim (or_cases (not (has_address exit.touched at)) (is_itself 255 at (read exit.cells.cells at 1).entry) is) [
  | inl untouched ↦ left.under.holds.parts.untouched at (not-true (has_address exit.touched at) untouched)
  | inr again ↦
      let held = laws.known.cells.reads (Some (suspended_of f)) (slice_index t.ram) 0 255 0 at 1 exit.cells.cells left.under.form.cells (omega (arith, inside)) (inl refl) left.under.holds.parts.cells in
      let (word, reads, number) = itself_read 8 (suspended_of f) at (slice_index t.ram at) (read exit.cells.cells at 1).entry again held.1 in
      number ∙ ap (λ n. n % 256) (reads_ram f left.suspended at word inside reads) ∙ byte_alone (slice_index f.ram at) (ram_small f left.suspended at inside)
]

two_low : (psw y t : ℕ) → psw < 256 → psw % 4 ≡ 0 → y < 4 → t % 4 ≡ 0 → t ≡ (psw + y) % 256 → t ≡ psw
two_low psw y t small none few held is = omega (arith, small, none, few, held, is)

status_is : (f t : ChipState) (exit : Known) → IsLeft f t exit → is_itself 255 psw_place exit.psw.entry ≡ true → t.psw ≡ f.psw
status_is f t exit left is =
    let (word, reads, number) = itself_read 8 (suspended_of f) psw_place t.psw exit.psw.entry is left.under.holds.parts.psw.entry in
    let (y, few, same) = reads_status f left.suspended word reads in
    two_low f.psw y t.psw left.suspended.psw left.suspended.psw_held few left.under.holds.state.psw_held (number ∙ ap (λ n. n % 256) same)

compared_is : (laws : InstructionLaws) (f t : ChipState) (exit : Known) → IsLeft f t exit → (compared : Compared)
    → IsCompared compared → is_compared_itself exit compared ≡ true
    → compared_in compared t ≡ compared_in compared f
compared_is laws f t exit left Accumulator form is = accumulator_is f t exit left is
compared_is laws f t exit left (Ram at) form is = ram_is laws f t exit left at form is

-- THE FACTS

-- a fact that stays where two things are what they were
kept_where : {F : Type 0} (first second : Bool) (fact : F) (P : Option F → Type 0) → (first ≡ true → second ≡ true → P (Some fact)) → P None
    → P (if first && second then Some fact else None)
kept_where first second fact P both none =
    cond_both (first && second) (Some fact) None P (λ e. let parts = and_parts first second e in both parts.0 parts.1) (λ e. none)

pub linear_holds : (laws : InstructionLaws) (f t : ChipState) (exit : Known) → IsLeft f t exit
    → (fact : Option LinearFact) → IsLinear fact → HoldsOfLinear fact f → HoldsOfLinear (linear_resumed exit fact) t
linear_holds laws f t exit left None form holds = tt
linear_holds laws f t exit left (Some fact) form holds =
    kept_where (is_itself 255 accumulator_place exit.a.entry) (is_ram_itself exit fact.place) fact (λ kept. HoldsOfLinear kept t)
    (λ own ram. accumulator_is f t exit left own ∙ holds ∙ ap (λ n. (fact.factor * n + fact.added) % 256) (sym (ram_is laws f t exit left fact.place form.0 ram))) tt

pub carry_holds : (laws : InstructionLaws) (f t : ChipState) (exit : Known) → IsLeft f t exit
    → (fact : Option CarryFact) → IsCarry fact → HoldsOfCarry fact f → HoldsOfCarry (carry_resumed exit fact) t
carry_holds laws f t exit left None form holds = tt
carry_holds laws f t exit left (Some fact) form holds =
    kept_where (is_itself 255 psw_place exit.psw.entry) (is_compared_itself exit fact.compared) fact (λ kept. HoldsOfCarry kept t)
    (λ own same. ap (λ n. bit_at n 7) (status_is f t exit left own) ∙ holds ∙ ap (λ n. bit_of (nat_lt n fact.bound)) (sym (compared_is laws f t exit left fact.compared form.0 same))) tt

-- their form
pub linear_form : (exit : Known) (fact : Option LinearFact) → IsLinear fact → IsLinear (linear_resumed exit fact)
linear_form exit None form = tt
linear_form exit (Some fact) form = kept_where (is_itself 255 accumulator_place exit.a.entry) (is_ram_itself exit fact.place) fact IsLinear (λ own ram. form) tt

pub carry_form : (exit : Known) (fact : Option CarryFact) → IsCarry fact → IsCarry (carry_resumed exit fact)
carry_form exit None form = tt
carry_form exit (Some fact) form = kept_where (is_itself 255 psw_place exit.psw.entry) (is_compared_itself exit fact.compared) fact IsCarry (λ own same. form) tt
