-- MOVX.
use Rattle.std.proofs.Common.{◌≡◌, ℕ, ◌+◌, ◌*◌, ◌<◌, ◌++◌, Bool, true, false, Option, List, [], ◌∷◌, refl, sym, subst, arith}
use Rattle.call_context.specs.declared.shown.Item.TheVariants.{Access}
use Rattle.call_context.specs.declared.shown.Set.TheVariants.{W}
use Rattle.chip_numbers.specs.declared.space.Space.TheVariants.{Xram}
use Rattle.call_context.specs.Showing.{Shows}
use Rattle.choosing.specs.Gives.{Gives, weaken}
use Rattle.value_set.specs.Form.{Has}
use Rattle.mcs51_decode.specs.declared.instr.External.{External}
use Rattle.mcs51_decode.specs.declared.instr.External.TheVariants.{DataPointer, Indirect}
use Rattle.mcs51_decode.specs.declared.instr.Instr.TheVariants.{ReadExternal, WriteExternal}
use Rattle.mcs51_decode.specs.declared.instr.Working.TheVariants.{Indirect as At}
use Rattle.mcs51_chip.specs.declared.place.Access.TheVariants.{External as AnExternal}
use Rattle.mcs51_chip.specs.declared.state.ChipState.{ChipState}
use Rattle.mcs51_chip.specs.Leading.{MayBeAt, MayReadExternal}
use Rattle.mcs51_chip.specs.Memory.{pointed_by}
use Rattle.mcs51_chip.specs.Registers.{with_accumulator}
use Rattle.mcs51_chip.specs.Step.{Effect, accessed, effect_of, external_reads, reading_external, writing_external}
use Rattle.mcs51_state.specs.Forms.{IsKnown}
use Rattle.mcs51_state.specs.Known.{Known, any_byte, byte_of}
use Rattle.mcs51_state.specs.Under.{IsUnder}
use Rattle.mcs51_state.specs.Operands.{pointed_addresses}
use Rattle.mcs51_state.specs.Showing.{AreShown}
use Rattle.mcs51_state.specs.Giving.{of_one}
use Rattle.mcs51_state.specs.Doing.{DoesSo, LeadsSo}
use Rattle.mcs51_state.specs.ShowingFacts.{one_shown}
use Rattle.mcs51_memories.specs.Externals.{external_addresses, external_items, external_loaded, register_items}
use Rattle.mcs51_results.specs.InstructionLaws.{InstructionLaws}
use Rattle.mcs51_memories.proofs.Values.{any_is, any_value}

-- THE ADDRESS

external_has : (laws : InstructionLaws) (framed : Bool) (a : Known) (s : ChipState) (first : Option ChipState) (external : External) (at : ℕ)
    → IsUnder framed a s first → MayBeAt s external at
    → Has 65536 (external_addresses external a) at
external_has laws framed a s first DataPointer at under is =
    let form = under.form in
    let parts = under.holds.parts in
    let pair = laws.known.bits.pair s.dpl s.dph a.dpl.set a.dph.set form.dpl.normal form.dph.normal parts.dpl.0 parts.dph.0 in
    let same : s.dpl + s.dph * 256 ≡ at = omega (arith, is) in
    subst (Has 65536 (external_addresses DataPointer a)) same pair
external_has laws framed a s first (Indirect i) at under (high, small, is) =
    let low_normal = laws.operands.stands.working_form framed a under.form (At i) in
    let low_has = laws.operands.stands.working framed a s first under (At i) in
    let pair = laws.known.bits.pair (pointed_by s i) high (pointed_addresses a i) any_byte low_normal (laws.known.sets.whole_normal 256 (omega arith)) low_has (laws.known.sets.whole 256 high small) in
    let same : pointed_by s i + high * 256 ≡ at = omega (arith, is) in
    subst (Has 65536 (external_addresses (Indirect i) a)) same pair

-- ACCESSES

register_shown : (laws : InstructionLaws) (framed : Bool) (a : Known) (s : ChipState) (first : Option ChipState) (pc : ℕ) (external : External)
    → IsUnder framed a s first
    → AreShown (register_items pc external a) pc (external_reads s external)
register_shown laws framed a s first pc DataPointer under = laws.operands.sums.none [] pc
register_shown laws framed a s first pc (Indirect i) under = laws.operands.shown.pointer framed pc a s first under (At i)

external_shown : (laws : InstructionLaws) (framed : Bool) (a : Known) (s : ChipState) (first : Option ChipState) (pc : ℕ) (write : Bool) (external : External) (at : ℕ)
    → IsUnder framed a s first → MayBeAt s external at
    → AreShown (external_items pc write external a) pc (external_reads s external ++ AnExternal write at ∷ [])
external_shown laws framed a s first pc write external at under may =
    let item = Access pc Xram write 1 (W (external_addresses external a)) in
    let shows : Shows item (accessed pc (AnExternal write at)) = (refl, refl, refl, refl, external_has laws framed a s first external at under may) in
    laws.operands.sums.both (register_items pc external a) (item ∷ []) pc (external_reads s external) (AnExternal write at ∷ []) (register_shown laws framed a s first pc external under)
    (one_shown item pc (AnExternal write at) shows)

-- MOVX TO A

pub external_form : (laws : InstructionLaws) (framed : Bool) (a : Known) → IsKnown framed a → IsKnown framed (external_loaded a)
unfolding external_loaded
external_form laws framed a form = laws.stores.forms.accumulator framed (byte_of any_byte) (any_is laws framed) a form

read_leads : (laws : InstructionLaws) (framed : Bool) (a : Known) (s : ChipState) (first : Option ChipState) (x : ℕ)
    → IsUnder framed a s first → x < 256
    → LeadsSo framed first (external_loaded a) s (with_accumulator x s)
unfolding external_loaded
read_leads laws framed a s first x under small = record { onward = refl; under = laws.stores.writes.accumulator framed first (byte_of any_byte) x (any_value laws framed first x small) a s under }

read_so : (laws : InstructionLaws) (framed : Bool) (a : Known) (s : ChipState) (first : Option ChipState) (pc : ℕ) (external : External) (effect : Effect)
    → IsUnder framed a s first → MayReadExternal s external effect
    → DoesSo framed first (external_items pc false external a) pc (external_loaded a) s effect
read_so laws framed a s first pc external effect under (at, may, (x, small, same)) =
    subst (DoesSo framed first (external_items pc false external a) pc (external_loaded a) s) (sym same)
    (record { shown = external_shown laws framed a s first pc false external at under may; leads = read_leads laws framed a s first x under small })

pub external_read_does : (laws : InstructionLaws) (framed : Bool) (a : Known) (s : ChipState) (first : Option ChipState) (image : List (Option ℕ)) (pc : ℕ) (external : External)
    → IsUnder framed a s first
    → Gives (DoesSo framed first (external_items pc false external a) pc (external_loaded a) s) (effect_of image s (ReadExternal external))
unfolding effect_of
external_read_does laws framed a s first image pc external under =
    weaken (MayReadExternal s external) (DoesSo framed first (external_items pc false external a) pc (external_loaded a) s) (reading_external s external)
    (λ effect may. read_so laws framed a s first pc external effect under may) (laws.chip.external_read s external)

-- MOVX OF A

pub external_write_does : (laws : InstructionLaws) (framed : Bool) (a : Known) (s : ChipState) (first : Option ChipState) (image : List (Option ℕ)) (pc : ℕ) (external : External)
    → IsUnder framed a s first
    → Gives (DoesSo framed first (external_items pc true external a) pc a s) (effect_of image s (WriteExternal external))
unfolding effect_of
external_write_does laws framed a s first image pc external under =
    of_one (DoesSo framed first (external_items pc true external a) pc a s) (MayBeAt s external) (λ at. (external_reads s external ++ AnExternal true at ∷ [], s)) (writing_external s external)
    (laws.chip.external_write s external)
    (λ at may. record { shown = external_shown laws framed a s first pc true external at under may; leads = record { onward = refl; under = under } })
