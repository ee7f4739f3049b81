-- The accesses of calls and returns are shown.
use Rattle.std.proofs.Common.{ℕ, ◌+◌, ◌%◌, Bool, true, false, Option, [], ◌∷◌, subst, inl, inr, arith}
use Rattle.std.proofs.lemmas.List.Elements.{Contains-append_cases, Contains-append_left, Contains-append_right}
use Rattle.value_set.specs.Form.{Has}
use Rattle.mcs51_chip.specs.declared.place.Access.TheVariants.{Internal}
use Rattle.mcs51_chip.specs.declared.place.Address.{Address}
use Rattle.mcs51_chip.specs.declared.place.Address.TheVariants.{InRam as AtRam}
use Rattle.mcs51_chip.specs.declared.state.ChipState.{ChipState}
use Rattle.mcs51_chip.specs.Memory.{pop_reads, push_writes}
use Rattle.mcs51_state.specs.declared.addresses.Addresses.{Addresses}
use Rattle.mcs51_state.specs.declared.addresses.Addresses.TheVariants.{InRam}
use Rattle.mcs51_state.specs.Known.{Known}
use Rattle.mcs51_state.specs.Standing.{AreAddresses, MayStandAt}
use Rattle.mcs51_state.specs.Under.{IsUnder}
use Rattle.mcs51_state.specs.Showing.{AreShown, access_of}
use Rattle.mcs51_state.specs.Stack.{raised, stack_top}
use Rattle.mcs51_state.specs.ValueFacts.{raised_has, raised_normal}
use Rattle.mcs51_results.specs.InstructionLaws.{InstructionLaws}
use Rattle.mcs51_control.specs.Returning.{below_top, call_accesses, return_accesses}
use Rattle.mcs51_control.proofs.Tops.{below_form, below_stands}

-- two accesses of one kind, each shown by its own item
two_shown : (laws : InstructionLaws) (pc : ℕ) (write : Bool) (one other : Addresses) (at next : Address)
    → MayStandAt one at → AreAddresses one
    → MayStandAt other next → AreAddresses other
    → AreShown (access_of pc write one ∷ access_of pc write other ∷ []) pc (Internal write at ∷ Internal write next ∷ [])
two_shown laws pc write one other at next stands form stands_too form_too access there =
    let first_item = access_of pc write one in
    let second_item = access_of pc write other in
    elim (Contains-append_cases (Internal write at ∷ []) (Internal write next ∷ []) access there) [
      | inl here ↦ let shows = laws.operands.shown.operand pc write one at stands form access here in
          (shows.0, Contains-append_left (first_item ∷ []) (second_item ∷ []) shows.0 shows.1, shows.2)
      | inr later ↦ let shows = laws.operands.shown.operand pc write other next stands_too form_too access later in
          (shows.0, Contains-append_right (first_item ∷ []) (second_item ∷ []) shows.0 shows.1, shows.2)
    ]

pub return_shown : (laws : InstructionLaws) (framed : Bool) (pc : ℕ) (a : Known) (s : ChipState) (first : Option ChipState)
    → IsUnder framed a s first
    → AreShown (return_accesses pc a) pc (pop_reads s)
return_shown laws framed pc a s first under =
    two_shown laws pc false (stack_top a) (below_top a) (AtRam s.sp) (AtRam ((s.sp + 255) % 256)) (laws.stores.stack.top framed first a s under) (laws.stores.stack.top_form framed first a s under)
    (below_stands laws framed a s first under) (below_form laws framed a under.form)

pub call_shown : (laws : InstructionLaws) (framed : Bool) (pc : ℕ) (a : Known) (s : ChipState) (first : Option ChipState)
    → IsUnder framed a s first
    → AreShown (call_accesses pc a) pc (push_writes s)
call_shown laws framed pc a s first under =
    let low = raised a.sp in
    let low_normal = raised_normal laws.known a.sp under.form.sp in
    let low_has = raised_has laws.known a.sp s.sp under.form.sp under.holds.parts.sp in
    let high_has : Has 256 (raised low) ((s.sp + 2) % 256) = subst (Has 256 (raised low)) (omega arith) (raised_has laws.known low ((s.sp + 1) % 256) low_normal low_has) in
    two_shown laws pc true (InRam low) (InRam (raised low)) (AtRam ((s.sp + 1) % 256)) (AtRam ((s.sp + 2) % 256)) low_has low_normal high_has (raised_normal laws.known low low_normal)
