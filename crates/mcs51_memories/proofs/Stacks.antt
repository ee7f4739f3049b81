-- PUSH and POP.
use Rattle.std.proofs.Common.{◌≡◌, ℕ, zero, suc, ◌+◌, ◌-◌, ◌%◌, ◌<◌, ◌==◌, ◌++◌, Bool, true, false, cond, Option, List, refl, sym, subst, arith}
use Rattle.choosing.specs.Asking.{IsOption}
use Rattle.choosing.specs.Gives.{Gives}
use Rattle.entry_value.specs.declared.byte.Byte.{Byte}
use Rattle.value_set.specs.declared.form.Form.{Form}
use Rattle.value_set.specs.Form.{Has, IsNormal}
use Rattle.value_set.specs.Joining.{join}
use Rattle.mcs51_decode.specs.declared.instr.Instr.TheVariants.{Pop, Push}
use Rattle.mcs51_chip.specs.declared.place.Address.TheVariants.{InRam as AtRam}
use Rattle.mcs51_chip.specs.declared.state.ChipState.{ChipState}
use Rattle.mcs51_chip.specs.Leading.{MayPush, popped_into, pushed_from}
use Rattle.mcs51_chip.specs.Memory.{direct_address, popped, pushed, reads, top_of, write, writes}
use Rattle.mcs51_chip.specs.Step.{effect_of, popping, pushing}
use Rattle.mcs51_state.specs.FormFacts.{byte_form}
use Rattle.mcs51_state.specs.Forms.{IsByte, IsKnown}
use Rattle.mcs51_state.specs.Known.{Known, byte_of}
use Rattle.mcs51_state.specs.Under.{IsUnder}
use Rattle.mcs51_state.specs.Operands.{direct_addresses}
use Rattle.mcs51_state.specs.Reading.{read_byte}
use Rattle.mcs51_state.specs.Showing.{AreShown}
use Rattle.mcs51_state.specs.Following.{IsValue}
use Rattle.mcs51_state.specs.Stack.{byte_popped, lowered, raised, stack_top}
use Rattle.mcs51_state.specs.ValueFacts.{lowered_has, lowered_normal, plain_value, raised_has, raised_normal}
use Rattle.mcs51_state.specs.Giving.{of_one}
use Rattle.mcs51_state.specs.Doing.{DoesSo, LeadsSo}
use Rattle.mcs51_state.specs.Accesses.{read_at, write_at}
use Rattle.mcs51_results.specs.InstructionLaws.{InstructionLaws}
use Rattle.mcs51_memories.specs.Stacking.{is_stack_pointer, next_top, or_lowered, pop_items, popped_byte, popped_known, push_items, pushed_byte, pushed_known, top_byte}
use Rattle.mcs51_memories.proofs.Values.{read_value}

-- SETS

both_normal : (laws : InstructionLaws) (a b : Form) → IsNormal 256 a → IsNormal 256 b → IsNormal 256 (join 256 a b)
both_normal laws a b normal other = laws.known.sets.join_normal 256 a b normal other

-- a number or the next one
or_raised : (laws : InstructionLaws) (sp : Form) (v option x : ℕ) → IsNormal 256 sp → Has 256 sp v → option < 2
    → x ≡ (v + option) % 256 → Has 256 (join 256 sp (raised sp)) x
or_raised laws sp v zero x normal has few is =
    let same : x ≡ v = omega (arith, is, laws.known.sets.below 256 v sp normal has) in
    subst (Has 256 (join 256 sp (raised sp))) (sym same) (laws.known.sets.join_first 256 sp (raised sp) normal (raised_normal laws.known sp normal) v has)
or_raised laws sp v (suc zero) x normal has few is =
    let same : x ≡ (v + 1) % 256 = omega (arith, is) in
    subst (Has 256 (join 256 sp (raised sp))) (sym same) (laws.known.sets.join_second 256 sp (raised sp) normal (raised_normal laws.known sp normal) ((v + 1) % 256) (raised_has laws.known sp v normal has))
or_raised laws sp v (suc (suc more)) x normal has few is = absurd (omega (arith, few))

-- a number or the one below
less_has : (laws : InstructionLaws) (set : Form) (v option x : ℕ) → IsNormal 256 set → Has 256 set v → option < 2
    → x ≡ (v + 256 - option) % 256 → Has 256 (or_lowered set) x
less_has laws set v zero x normal has few is =
    let same : x ≡ v = omega (arith, is, laws.known.sets.below 256 v set normal has) in
    subst (Has 256 (or_lowered set)) (sym same) (laws.known.sets.join_first 256 set (lowered set) normal (lowered_normal laws.known set normal) v has)
less_has laws set v (suc zero) x normal has few is =
    let same : x ≡ (v + 256 - 1) % 256 = omega (arith, is) in
    subst (Has 256 (or_lowered set)) (sym same) (laws.known.sets.join_second 256 set (lowered set) normal (lowered_normal laws.known set normal) ((v + 256 - 1) % 256) (lowered_has laws.known set v normal has))
less_has laws set v (suc (suc more)) x normal has few is = absurd (omega (arith, few))

-- PUSH

either_is : (framed : Bool) (test : Bool) (set : Form) (byte : Byte) → IsNormal 256 set → IsByte framed byte
    → IsByte framed (cond test (byte_of set) byte)
either_is framed true set byte normal is = byte_form framed set normal
either_is framed false set byte normal is = is

pub push_form : (laws : InstructionLaws) (framed : Bool) (a : Known) (direct : ℕ) → IsKnown framed a → direct < 256
    → IsKnown framed (pushed_known framed direct a)
unfolding pushed_known
push_form laws framed a direct form inside =
    let at = laws.operands.stands.direct direct inside in
    let byte = laws.operands.reads.form framed a form (direct_addresses direct) at.1 in
    laws.stores.forms.push framed (pushed_byte framed direct a)
    (either_is framed (is_stack_pointer direct) (join 256 a.sp (raised a.sp)) (read_byte framed a (direct_addresses direct)) (both_normal laws a.sp (raised a.sp) form.sp (raised_normal laws.known a.sp form.sp)) byte) a form

push_value : (laws : InstructionLaws) (framed : Bool) (a : Known) (s : ChipState) (first : Option ChipState) (direct x : ℕ) (test : Bool)
    → IsUnder framed a s first
    → direct < 256 → MayPush test s direct x
    → IsValue framed first (cond test (byte_of (join 256 a.sp (raised a.sp))) (read_byte framed a (direct_addresses direct))) x
push_value laws framed a s first direct x true under inside (option, few, is) =
    plain_value framed first (join 256 a.sp (raised a.sp)) x (both_normal laws a.sp (raised a.sp) under.form.sp (raised_normal laws.known a.sp under.form.sp))
    (or_raised laws a.sp s.sp option x under.form.sp under.holds.parts.sp few is)
push_value laws framed a s first direct x false under inside may =
    let at = laws.operands.stands.direct direct inside in
    read_value laws framed a s first (direct_addresses direct) (direct_address direct) x under at.0 at.1 may

push_leads : (laws : InstructionLaws) (framed : Bool) (a : Known) (s : ChipState) (first : Option ChipState) (direct x : ℕ)
    → IsUnder framed a s first → direct < 256
    → MayPush (direct == 0x81) s direct x
    → LeadsSo framed first (pushed_known framed direct a) s (pushed x s)
unfolding pushed_known
push_leads laws framed a s first direct x under inside may = record {
  onward = refl;
  under = laws.stores.stack.push framed first (pushed_byte framed direct a) x (push_value laws framed a s first direct x (direct == 0x81) under inside may) a s under;
}

push_shown : (laws : InstructionLaws) (framed : Bool) (a : Known) (s : ChipState) (first : Option ChipState) (pc direct : ℕ)
    → IsUnder framed a s first → direct < 256
    → AreShown (push_items pc direct a) pc (reads (direct_address direct) ++ writes (AtRam ((s.sp + 1) % 256)))
push_shown laws framed a s first pc direct under inside =
    let at = laws.operands.stands.direct direct inside in
    laws.operands.sums.both (read_at pc (direct_addresses direct)) (write_at pc (next_top a)) pc (reads (direct_address direct)) (writes (AtRam ((s.sp + 1) % 256)))
    (laws.operands.sums.read pc (direct_addresses direct) (direct_address direct) at.0 at.1)
    (laws.operands.sums.write pc (next_top a) (AtRam ((s.sp + 1) % 256)) (raised_has laws.known a.sp s.sp under.form.sp under.holds.parts.sp) (raised_normal laws.known a.sp under.form.sp))

pub push_does : (laws : InstructionLaws) (framed : Bool) (a : Known) (s : ChipState) (first : Option ChipState) (image : List (Option ℕ)) (pc direct : ℕ)
    → IsUnder framed a s first → direct < 256
    → Gives (DoesSo framed first (push_items pc direct a) pc (pushed_known framed direct a) s) (effect_of image s (Push direct))
unfolding effect_of
push_does laws framed a s first image pc direct under inside =
    of_one (DoesSo framed first (push_items pc direct a) pc (pushed_known framed direct a) s) (MayPush (direct == 0x81) s direct) (pushed_from s direct) (pushing s direct) (laws.chip.pushing s direct)
    (λ x may. record { shown = push_shown laws framed a s first pc direct under inside; leads = push_leads laws framed a s first direct x under inside may })

-- POP

pub pop_form : (laws : InstructionLaws) (framed : Bool) (a : Known) (direct : ℕ) → IsKnown framed a → direct < 256
    → IsKnown framed (popped_known framed direct a)
unfolding popped_known
pop_form laws framed a direct form inside =
    let at = laws.operands.stands.direct direct inside in
    let top = top_byte framed a in
    let is = laws.operands.reads.form framed a form (stack_top a) form.sp in
    laws.stores.forms.byte framed (direct_addresses direct) (popped_byte framed direct a) at.1
    (either_is framed (is_stack_pointer direct) (or_lowered top.set) top (both_normal laws top.set (lowered top.set) is.normal (lowered_normal laws.known top.set is.normal)) is)
    (byte_popped a) (laws.stores.forms.pop framed a form)

-- what POP takes from the byte on top
abbrev left_by : ChipState → (option : ℕ) → ℕ
left_by s option = (top_of s + 256 - option) % 256

pop_value : (laws : InstructionLaws) (framed : Bool) (a : Known) (s : ChipState) (first : Option ChipState) (option : ℕ) (test : Bool)
    → IsUnder framed a s first → IsOption test 2 option
    → IsValue framed first (cond test (byte_of (or_lowered (top_byte framed a).set)) (top_byte framed a)) (left_by s option)
pop_value laws framed a s first option true under is =
    let top = top_byte framed a in
    let value = read_value laws framed a s first (stack_top a) (AtRam s.sp) (top_of s) under (laws.stores.stack.top framed first a s under) under.form.sp refl in
    plain_value framed first (or_lowered top.set) (left_by s option) (both_normal laws top.set (lowered top.set) value.form.normal (lowered_normal laws.known top.set value.form.normal))
    (less_has laws top.set (top_of s) option (left_by s option) value.form.normal value.holds.0 is.below refl)
pop_value laws framed a s first option false under is =
    let top = top_byte framed a in
    let value = read_value laws framed a s first (stack_top a) (AtRam s.sp) (top_of s) under (laws.stores.stack.top framed first a s under) under.form.sp refl in
    let small = laws.known.sets.below 256 (top_of s) top.set value.form.normal value.holds.0 in
    let none : option ≡ 0 = is.none refl in
    let same : top_of s ≡ left_by s option = omega (arith, none, small) in
    subst (IsValue framed first top) same value

pop_leads : (laws : InstructionLaws) (framed : Bool) (a : Known) (s : ChipState) (first : Option ChipState) (direct option : ℕ)
    → IsUnder framed a s first
    → direct < 256 → IsOption (direct == 0x81) 2 option
    → LeadsSo framed first (popped_known framed direct a) s (write (direct_address direct) (left_by s option) (popped s))
unfolding popped_known
pop_leads laws framed a s first direct option under inside is =
    let at = laws.operands.stands.direct direct inside in
    record {
      onward = laws.operands.formats.write_keeps (direct_address direct) (left_by s option) (popped s);
      under = laws.stores.writes.byte framed first (direct_addresses direct) (direct_address direct) (popped_byte framed direct a) (left_by s option)
          (pop_value laws framed a s first option (direct == 0x81) under is) at.1 at.0 (byte_popped a) (popped s) (laws.stores.stack.pop framed first a s under);
    }

pop_shown : (laws : InstructionLaws) (framed : Bool) (a : Known) (s : ChipState) (first : Option ChipState) (pc direct : ℕ)
    → IsUnder framed a s first → direct < 256
    → AreShown (pop_items pc direct a) pc (reads (AtRam s.sp) ++ writes (direct_address direct))
pop_shown laws framed a s first pc direct under inside =
    let at = laws.operands.stands.direct direct inside in
    laws.operands.sums.both (read_at pc (stack_top a)) (write_at pc (direct_addresses direct)) pc (reads (AtRam s.sp)) (writes (direct_address direct))
    (laws.operands.sums.read pc (stack_top a) (AtRam s.sp) (laws.stores.stack.top framed first a s under) under.form.sp)
    (laws.operands.sums.write pc (direct_addresses direct) (direct_address direct) at.0 at.1)

pub pop_does : (laws : InstructionLaws) (framed : Bool) (a : Known) (s : ChipState) (first : Option ChipState) (image : List (Option ℕ)) (pc direct : ℕ)
    → IsUnder framed a s first → direct < 256
    → Gives (DoesSo framed first (pop_items pc direct a) pc (popped_known framed direct a) s) (effect_of image s (Pop direct))
unfolding effect_of
pop_does laws framed a s first image pc direct under inside =
    of_one (DoesSo framed first (pop_items pc direct a) pc (popped_known framed direct a) s) (IsOption (direct == 0x81) 2) (popped_into s direct) (popping s direct) (laws.chip.popping s direct)
    (λ option is. record { shown = pop_shown laws framed a s first pc direct under inside; leads = pop_leads laws framed a s first direct option under inside is })
