-- CJNE.
use Rattle.std.proofs.Common.{ℕ, ◌<◌, ◌==◌, ◌++◌, Bool, true, false, Option, None, Some, List, [], set, refl, ◌∙◌, subst}
use Rattle.std.specs.Prelude.{nat_lt, not}
use Rattle.std.proofs.lemmas.List.{length-set}
use Rattle.std.proofs.lemmas.Option.{same_Some}
use Rattle.choosing.specs.Gives.{Gives, answer_gives}
use Rattle.value_set.specs.declared.form.Form.{Form}
use Rattle.mcs51_decode.specs.declared.instr.Comparison.{Comparison}
use Rattle.mcs51_decode.specs.declared.instr.Comparison.TheVariants.{AccumulatorImmediate, AccumulatorDirect, WorkingImmediate}
use Rattle.mcs51_decode.specs.declared.instr.Instr.TheVariants.{CompareJump}
use Rattle.mcs51_decode.specs.declared.instr.Memory.TheVariants.{Direct, Working as InWorking}
use Rattle.mcs51_decode.specs.declared.instr.Working.{Working}
use Rattle.mcs51_decode.specs.Fitting.{IsComparison}
use Rattle.mcs51_decode.specs.Targets.{relative_target}
use Rattle.mcs51_chip.specs.declared.state.ChipState.{ChipState}
use Rattle.mcs51_chip.specs.Leading.{MayRead}
use Rattle.mcs51_chip.specs.Memory.{direct_address, pointer_reads, reads, working_address}
use Rattle.mcs51_chip.specs.Registers.{bit_of, with_carry}
use Rattle.mcs51_chip.specs.Step.{compared, effect_of, reading}
use Rattle.mcs51_state.specs.declared.fact.Compared.TheVariants.{Accumulator}
use Rattle.mcs51_state.specs.Forms.{IsCarry, IsKnown}
use Rattle.mcs51_state.specs.Known.{Known}
use Rattle.mcs51_state.specs.Under.{IsUnder}
use Rattle.mcs51_state.specs.Operands.{direct_addresses, working_addresses}
use Rattle.mcs51_state.specs.Reading.{read_byte}
use Rattle.mcs51_state.specs.Showing.{pointer_accesses}
use Rattle.mcs51_branch.specs.declared.operand.Operand.{Operand}
use Rattle.mcs51_branch.specs.declared.operand.Operand.TheVariants.{One}
use Rattle.mcs51_branch.specs.Jumps.{IsNumberOf, IsOperand, compared_with, comparison_cut, is_less, with_carry_written}
use Rattle.mcs51_state.specs.Giving.{of_one}
use Rattle.mcs51_state.specs.Doing.{Goes, GoesSo}
use Rattle.mcs51_state.specs.Accesses.{read_at, read_items}
use Rattle.mcs51_jumps.specs.Jumps.{AreWays, comparison_items, operand_at, ways_by_comparison, working_set}
use Rattle.mcs51_jumps.proofs.PartLaws.{PartLaws}
use Rattle.mcs51_jumps.proofs.Branching.{goes}
use Rattle.mcs51_jumps.proofs.Operands.{operand_has, operand_is}

-- WITH A CONSTANT

constant_goes : (laws : PartLaws) (framed : Bool) (a : Known) (s : ChipState) (first : Option ChipState) (operand : Operand) (x value rel : ℕ)
    → IsUnder framed a s first → IsOperand operand → IsNumberOf operand s x → value < 256
    → Goes framed first (relative_target s.pc rel) (comparison_cut operand value false a) (comparison_cut operand value true a) s (compared x value rel s)
constant_goes laws framed a s first operand x value rel under is number small =
    let (way, cut, there) = laws.branch.ways.comparison framed a s first operand x value under is number small in
    goes laws framed first (λ taken. comparison_cut operand value taken a) (not (x == value)) way rel s (with_carry (bit_of (nat_lt x value)) s) cut refl there

working_does : (laws : PartLaws) (framed : Bool) (a : Known) (s : ChipState) (first : Option ChipState) (pc : ℕ) (w : Working) (value rel : ℕ)
    → IsUnder framed a s first → value < 256
    → Gives (GoesSo framed first (read_items pc a (InWorking w)) pc (relative_target s.pc rel) (comparison_cut (operand_at a (working_set a w)) value false a) (comparison_cut (operand_at a (working_set a w)) value true a) s)
    (reading s (pointer_reads s w) (working_address s w) (λ x. compared x value rel s))
working_does laws framed a s first pc w value rel under small =
    let operand = operand_at a (working_set a w) in
    let at = working_addresses a w in
    of_one (GoesSo framed first (read_items pc a (InWorking w)) pc (relative_target s.pc rel) (comparison_cut operand value false a) (comparison_cut operand value true a) s)
    (MayRead s (working_address s w)) (λ x. (pointer_reads s w ++ reads (working_address s w), compared x value rel s)) (reading s (pointer_reads s w) (working_address s w) (λ x. compared x value rel s))
    (laws.instructions.chip.reading s (pointer_reads s w) (working_address s w) (λ x. compared x value rel s))
    (λ x may. record {
      shown = laws.instructions.operands.sums.both (pointer_accesses pc a w) (read_at pc at) pc (pointer_reads s w) (reads (working_address s w)) (laws.instructions.operands.shown.pointer framed pc a s first under w)
          (laws.instructions.operands.sums.read pc at (working_address s w) (laws.instructions.operands.stands.operand framed a s first under (InWorking w)) (laws.instructions.operands.stands.operand_form framed a under.form (InWorking w) tt));
      goes = constant_goes laws framed a s first operand x value rel under (operand_is laws framed a w under.form) (operand_has laws framed a s first w x under may) small;
    })

-- WITH A DIRECT BYTE

direct_does : (laws : PartLaws) (framed : Bool) (a : Known) (s : ChipState) (first : Option ChipState) (pc direct rel : ℕ)
    → IsUnder framed a s first → direct < 256
    → Gives (GoesSo framed first (read_items pc a (Direct direct)) pc (relative_target s.pc rel) (Some (compared_with (read_byte framed a (direct_addresses direct)).set a))
    (Some (compared_with (read_byte framed a (direct_addresses direct)).set a)) s) (reading s [] (direct_address direct) (λ x. compared s.a x rel s))
direct_does laws framed a s first pc direct rel under small =
    let at = direct_addresses direct in
    let set = (read_byte framed a at).set in
    let stands = laws.instructions.operands.stands.operand framed a s first under (Direct direct) in
    let are = laws.instructions.operands.stands.operand_form framed a under.form (Direct direct) small in
    of_one (GoesSo framed first (read_items pc a (Direct direct)) pc (relative_target s.pc rel) (Some (compared_with set a)) (Some (compared_with set a)) s)
    (MayRead s (direct_address direct)) (λ x. (reads (direct_address direct), compared s.a x rel s)) (reading s [] (direct_address direct) (λ x. compared s.a x rel s))
    (laws.instructions.chip.reading s [] (direct_address direct) (λ x. compared s.a x rel s))
    (λ x may. record {
      shown = laws.instructions.operands.sums.read pc at (direct_address direct) stands are;
      goes = goes laws framed first (λ taken. Some (compared_with set a)) (not (s.a == x)) (compared_with set a) rel s (with_carry (bit_of (nat_lt s.a x)) s) refl refl
          (laws.branch.ways.with_byte framed a s first set x under (laws.instructions.operands.reads.byte framed a s first under at (direct_address direct) x stands are may).0);
    })

-- EACH

pub comparison_does : (laws : PartLaws) (framed : Bool) (a : Known) (s : ChipState) (first : Option ChipState) (image : List (Option ℕ)) (pc : ℕ) (comparison : Comparison) (rel : ℕ)
    → IsUnder framed a s first → IsComparison comparison
    → Gives (GoesSo framed first (comparison_items pc comparison a) pc (relative_target s.pc rel) (ways_by_comparison framed comparison a).on (ways_by_comparison framed comparison a).jumped s)
    (effect_of image s (CompareJump comparison rel))
unfolding effect_of ways_by_comparison
comparison_does laws framed a s first image pc (AccumulatorImmediate value) rel under small =
    answer_gives (GoesSo framed first [] pc (relative_target s.pc rel) (comparison_cut (One Accumulator) value false a) (comparison_cut (One Accumulator) value true a) s) ([], compared s.a value rel s)
    (record { shown = laws.instructions.operands.sums.none [] pc; goes = constant_goes laws framed a s first (One Accumulator) s.a value rel under tt refl small })
comparison_does laws framed a s first image pc (AccumulatorDirect direct) rel under small = direct_does laws framed a s first pc direct rel under small
comparison_does laws framed a s first image pc (WorkingImmediate w value) rel under small = working_does laws framed a s first pc w value rel under small

-- FORM

with_form : (framed : Bool) (a : Known) (set : Form) → IsKnown framed a → IsKnown framed (compared_with set a)
unfolding compared_with with_carry_written
with_form framed a set form =
    let bits = length-set a.psw.bits 5 (is_less a.a.set set) ∙ form.bits in
    let none : IsCarry None = tt in
    assumption (form, bits, none)

pub comparison_form : (laws : PartLaws) (framed : Bool) (a : Known) (comparison : Comparison) → IsKnown framed a → IsComparison comparison
    → AreWays framed (ways_by_comparison framed comparison a)
unfolding ways_by_comparison
comparison_form laws framed a (AccumulatorImmediate value) form small = record {
  on = λ way e. laws.branch.ways.comparison_form framed a way (One Accumulator) value false form tt small e;
  jumped = λ way e. laws.branch.ways.comparison_form framed a way (One Accumulator) value true form tt small e;
}
comparison_form laws framed a (AccumulatorDirect direct) form small =
    let behind = compared_with (read_byte framed a (direct_addresses direct)).set a in
    let is = with_form framed a (read_byte framed a (direct_addresses direct)).set form in
    record { on = λ way e. subst (IsKnown framed) (same_Some behind way e) is; jumped = λ way e. subst (IsKnown framed) (same_Some behind way e) is }
comparison_form laws framed a (WorkingImmediate w value) form small =
    let operand = operand_at a (working_set a w) in
    let is = operand_is laws framed a w form in
    record {
      on = λ way e. laws.branch.ways.comparison_form framed a way operand value false form is small e;
      jumped = λ way e. laws.branch.ways.comparison_form framed a way operand value true form is small e;
    }
