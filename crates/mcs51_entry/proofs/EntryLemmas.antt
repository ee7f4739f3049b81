-- What is known where a handler begins stands for the state that the entry of its interrupt leaves, over the suspended one.
use Rattle.std.proofs.Common.{◌≡◌, ℕ, ◌+◌, ◌/◌, ◌%◌, ◌<◌, Bool, true, false, Option, Some, None, [], ◌∷◌, refl, sym, subst, inl, inr, arith, Contains}
use Rattle.std.specs.Prelude.{if◌then◌else◌}
use Rattle.std.proofs.lemmas.List.Elements.{Contains-append_left, Contains-append_right, Contains-push}
use Rattle.value_set.specs.declared.form.Form.{Form}
use Rattle.value_set.specs.Form.{Has, IsNormal}
use Rattle.value_set.specs.Summing.{single}
use Rattle.call_context.specs.declared.node.Node.TheVariants.{At}
use Rattle.call_context.specs.declared.shown.Item.{Item}
use Rattle.call_context.specs.Showing.{AreShowing}
use Rattle.mcs51_chip.specs.declared.place.Access.{Access}
use Rattle.mcs51_chip.specs.declared.place.Access.TheVariants.{Internal}
use Rattle.mcs51_chip.specs.declared.place.Address.TheVariants.{InRam as AtRam}
use Rattle.mcs51_chip.specs.declared.state.ChipState.{ChipState}
use Rattle.mcs51_chip.specs.Interrupts.{is_high, serving, vector_of}
use Rattle.mcs51_chip.specs.Memory.{push_writes, with_pushed_address}
use Rattle.mcs51_chip.specs.Step.{accessed, called, going_to}
use Rattle.mcs51_state.specs.declared.addresses.Addresses.TheVariants.{InRam}
use Rattle.mcs51_state.specs.declared.fact.CarryFact.{CarryFact}
use Rattle.mcs51_state.specs.declared.fact.Compared.{Compared}
use Rattle.mcs51_state.specs.declared.fact.Compared.TheVariants.{Accumulator, Ram}
use Rattle.mcs51_state.specs.declared.fact.LinearFact.{LinearFact}
use Rattle.mcs51_state.specs.declared.levels.Levels.{Levels}
use Rattle.mcs51_state.specs.Forms.{AreLevels, IsByte, IsKnown}
use Rattle.mcs51_state.specs.Holding.{Covers, HoldsOf, HoldsOfCarry, HoldsOfLinear}
use Rattle.mcs51_state.specs.Known.{Known}
use Rattle.mcs51_state.specs.Levels.{may_serve}
use Rattle.mcs51_state.specs.Under.{IsUnder}
use Rattle.mcs51_state.specs.Showing.{AreShown, access_of}
use Rattle.mcs51_state.specs.Following.{IsValue}
use Rattle.mcs51_state.specs.Stack.{pair_pushed, raised}
use Rattle.mcs51_entry.specs.declared.coming.Coming.{Coming}
use Rattle.mcs51_entry.specs.Coming.{ComesSo, comings_of, frame_of_coming}
use Rattle.mcs51_entry.specs.Entering.{counter_pushed, entered_known, entry_accesses, handed, levels_at, related}
use Rattle.mcs51_results.specs.InstructionLaws.{InstructionLaws}
use Rattle.mcs51_entry.proofs.ComingLemmas.{allowed_when, is_listed}
use Rattle.mcs51_entry.proofs.HandingLemmas.{handed_form, handed_under}
use Rattle.mcs51_entry.proofs.Levels.{level_by, level_serves, levels_some}
use Rattle.plain_lemmas.specs.Members.{in_cons, in_none}
use Rattle.mcs51_entry.proofs.Relations.{from_itself}

-- THE PUSHED COUNTER

low_form : (laws : InstructionLaws) (pc : ℕ) → pc < 65536 → IsByte true (related 512 (single (pc % 256)))
low_form laws pc small = record { normal = (laws.known.sets.single 256 (pc % 256) (omega arith)).0; entry = (refl, omega arith, omega arith) }

high_form : (laws : InstructionLaws) (pc : ℕ) → pc < 65536 → IsByte true (related 513 (single (pc / 256)))
high_form laws pc small = record { normal = (laws.known.sets.single 256 (pc / 256) (omega (arith, small))).0; entry = (refl, omega arith, omega arith) }

low_value : (laws : InstructionLaws) (s : ChipState) → s.pc < 65536 → IsValue true (Some s) (related 512 (single (s.pc % 256))) (s.pc % 256)
low_value laws s small = record {
  form = low_form laws s.pc small;
  holds = ((laws.known.sets.single 256 (s.pc % 256) (omega arith)).1, from_itself s 512 (s.pc % 256) (omega arith) refl);
}

high_value : (laws : InstructionLaws) (s : ChipState) → s.pc < 65536
    → IsValue true (Some s) (related 513 (single (s.pc / 256))) (s.pc / 256)
high_value laws s small = record {
  form = high_form laws s.pc small;
  holds = ((laws.known.sets.single 256 (s.pc / 256) (omega (arith, small))).1, from_itself s 513 (s.pc / 256) (omega (arith, small)) refl);
}

-- THE LEVEL

linear_stays : (fact : Option LinearFact) (s : ChipState) (high : Bool) (pc : ℕ) → HoldsOfLinear fact s
    → HoldsOfLinear fact (serving high (going_to pc s))
linear_stays None s high pc holds = holds
linear_stays (Some fact) s true pc holds = holds
linear_stays (Some fact) s false pc holds = holds

told_stays : (place : Compared) (bound : ℕ) (s : ChipState) (high : Bool) (pc : ℕ)
    → HoldsOfCarry (Some (record { compared = place; bound = bound })) s
    → HoldsOfCarry (Some (record { compared = place; bound = bound })) (serving high (going_to pc s))
told_stays Accumulator bound s true pc holds = holds
told_stays Accumulator bound s false pc holds = holds
told_stays (Ram at) bound s true pc holds = holds
told_stays (Ram at) bound s false pc holds = holds

carry_stays : (fact : Option CarryFact) (s : ChipState) (high : Bool) (pc : ℕ) → HoldsOfCarry fact s
    → HoldsOfCarry fact (serving high (going_to pc s))
carry_stays None s high pc holds = holds
carry_stays (Some fact) s high pc holds = told_stays fact.compared fact.bound s high pc holds

with_levels : Levels → Known → Known
with_levels levels known = record known { levels = levels }

high_served : (known : Known) (levels : Levels) (t s : ChipState) (pc : ℕ) → pc < 65536
    → may_serve levels t.serves_low true ≡ true → HoldsOf known t (Some s)
    → HoldsOf (with_levels levels known) (serving true (going_to pc t)) (Some s)
unfolding with_levels
high_served known levels t s pc small serves holds =
    let linear = linear_stays known.linear_fact t true pc holds.parts.linear_fact in
    let carry = carry_stays known.carry_fact t true pc holds.parts.carry_fact in
    assumption (holds, small, serves, linear, carry)

low_served : (known : Known) (levels : Levels) (t s : ChipState) (pc : ℕ) → pc < 65536
    → may_serve levels true t.serves_high ≡ true → HoldsOf known t (Some s)
    → HoldsOf (with_levels levels known) (serving false (going_to pc t)) (Some s)
unfolding with_levels
low_served known levels t s pc small serves holds =
    let linear = linear_stays known.linear_fact t false pc holds.parts.linear_fact in
    let carry = carry_stays known.carry_fact t false pc holds.parts.carry_fact in
    assumption (holds, small, serves, linear, carry)

served : (known : Known) (levels : Levels) (t s : ChipState) (high : Bool) (pc : ℕ) → pc < 65536
    → may_serve levels (if high then t.serves_low else true) (if high then true else t.serves_high) ≡ true
    → HoldsOf known t (Some s) → HoldsOf (with_levels levels known) (serving high (going_to pc t)) (Some s)
served known levels t s true pc small serves holds = high_served known levels t s pc small serves holds
served known levels t s false pc small serves holds = low_served known levels t s pc small serves holds

served_at : (high : Bool) (t : ChipState) (pc : ℕ) → (serving high (going_to pc t)).pc ≡ pc
served_at true t pc = refl
served_at false t pc = refl

-- WHERE THE HANDLER BEGINS

pub covered : (laws : InstructionLaws) (framed : Bool) (a : Known) (s : ChipState) (first : Option ChipState) (coming_so : Coming)
    → IsUnder framed a s first → ComesSo a s coming_so
    → Covers (At (vector_of coming_so.source) [] (frame_of_coming coming_so)) (entered_known a s.pc coming_so) (serving (is_high s coming_so.source) (called (vector_of coming_so.source) s)) (Some s)
unfolding entered_known with_levels
covered laws framed a s first coming_so under so =
    let is = is_listed laws a coming_so under.form.sp so.listed in
    let below = is.below in
    let counter = under.holds.state.pc in
    let high = is_high s coming_so.source in
    let pc = vector_of coming_so.source in
    let start = handed_under laws framed coming_so.sp a s first is.normal so.at under in
    let low = related 512 (single (s.pc % 256)) in
    let top = related 513 (single (s.pc / 256)) in
    let pushed = laws.stores.stack.push_pair true (Some s) low top s.pc (low_value laws s counter) (high_value laws s counter) (handed coming_so.sp a) s start in
    let level : level_by high s.serves_low ≡ coming_so.level = sym so.level in
    let serves = level_serves high s.serves_low s.serves_high (allowed_when s coming_so.source so.comes) in
    let serves_so = subst (λ n. may_serve (levels_at n) (if high then s.serves_low else true) (if high then true else s.serves_high) ≡ true) level serves in (
      served_at high (with_pushed_address s.pc s) pc,
      served (pair_pushed true low top (handed coming_so.sp a)) (levels_at coming_so.level) (with_pushed_address s.pc s) s high pc (omega (arith, below)) serves_so pushed.holds,
      so.came,
    )

-- FORM

levels_form : (known : Known) (levels : Levels) → AreLevels levels → IsKnown true known → IsKnown true (record known { levels = levels })
levels_form known levels are form = assumption (form, are)

pub entered_form : (laws : InstructionLaws) (framed : Bool) (a : Known) (pc : ℕ) (coming_so : Coming) → IsKnown framed a
    → pc < 65536 → Contains (comings_of a) coming_so → IsKnown true (entered_known a pc coming_so)
unfolding entered_known
entered_form laws framed a pc coming_so form small h =
    let is = is_listed laws a coming_so form.sp h in
    let start = handed_form laws framed coming_so.sp a is.normal form in
    let pushed = laws.stores.forms.push_pair true (related 512 (single (pc % 256))) (related 513 (single (pc / 256))) (low_form laws pc small) (high_form laws pc small) (handed coming_so.sp a) start in
    levels_form (counter_pushed pc (handed coming_so.sp a)) (levels_at coming_so.level) (levels_some coming_so.level) pushed

-- WHAT IS SHOWN

showing_more : (item other : Item) (pc : ℕ) (access : Access) → AreShowing (item ∷ []) (accessed pc access)
    → AreShowing (item ∷ other ∷ []) (accessed pc access)
showing_more item other pc access shows = (shows.0, Contains-append_left (item ∷ []) (other ∷ []) shows.0 shows.1, shows.2)

showing_later : (item other : Item) (pc : ℕ) (access : Access) → AreShowing (other ∷ []) (accessed pc access)
    → AreShowing (item ∷ other ∷ []) (accessed pc access)
showing_later item other pc access shows = (shows.0, Contains-append_right (item ∷ []) (other ∷ []) shows.0 shows.1, shows.2)

raised_normal : (laws : InstructionLaws) (sp : Form) → IsNormal 256 sp → IsNormal 256 (raised sp)
raised_normal laws sp normal = laws.known.sets.add_normal 256 sp (single 1) normal (laws.known.sets.single 256 1 (omega arith)).0

raised_has : (laws : InstructionLaws) (sp : Form) (v : ℕ) → IsNormal 256 sp → Has 256 sp v → Has 256 (raised sp) ((v + 1) % 256)
raised_has laws sp v normal has = let one = laws.known.sets.single 256 1 (omega arith) in laws.known.sets.add 256 v 1 sp (single 1) normal one.0 has one.1

pub shown : (laws : InstructionLaws) (framed : Bool) (a : Known) (s : ChipState) (first : Option ChipState) (coming_so : Coming)
    → IsUnder framed a s first → ComesSo a s coming_so
    → AreShown (entry_accesses s.pc coming_so) s.pc (push_writes s)
shown laws framed a s first coming_so under so access there =
    let is = is_listed laws a coming_so under.form.sp so.listed in
    let low = raised coming_so.sp in
    let high = raised low in
    let low_normal = raised_normal laws coming_so.sp is.normal in
    let low_has = raised_has laws coming_so.sp s.sp is.normal so.at in
    let high_has : Has 256 high ((s.sp + 2) % 256) = subst (Has 256 high) (omega arith) (raised_has laws low ((s.sp + 1) % 256) low_normal low_has) in
    let one = access_of s.pc true (InRam low) in
    let other = access_of s.pc true (InRam high) in
    let first_write : Access = Internal true (AtRam ((s.sp + 1) % 256)) in
    let second_write : Access = Internal true (AtRam ((s.sp + 2) % 256)) in
    elim (in_cons first_write (second_write ∷ []) access there) [
      | inl same ↦ subst (λ (x : Access). AreShowing (one ∷ other ∷ []) (accessed s.pc x)) same
          (showing_more one other s.pc first_write (laws.operands.shown.operand s.pc true (InRam low) (AtRam ((s.sp + 1) % 256)) low_has low_normal first_write (Contains-push [] first_write)))
      | inr later ↦ elim (in_cons second_write [] access later) [
        | inl same ↦ subst (λ (x : Access). AreShowing (one ∷ other ∷ []) (accessed s.pc x)) same
            (showing_later one other s.pc second_write (laws.operands.shown.operand s.pc true (InRam high) (AtRam ((s.sp + 2) % 256)) high_has (raised_normal laws low low_normal) second_write (Contains-push [] second_write)))
        | inr none ↦ absurd (in_none access none)
      ]
    ]
