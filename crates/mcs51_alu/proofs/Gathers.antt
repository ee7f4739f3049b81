-- The accumulator as it is gathered from the byte of its fact.
use Rattle.std.proofs.Common.{◌≡◌, ℕ, ◌+◌, ◌*◌, ◌<◌, ◌≤◌, Bool, Option, Some, List, length, map, refl, ap, ◌∙◌, subst, arith, Contains}
use Rattle.std.specs.Prelude.{slice_index}
use Rattle.std.proofs.Math.Nat.{mod-lt}
use Rattle.std.proofs.lemmas.List.{length-map}
use Rattle.plain_lemmas.specs.Members.{from_map, in_map}
use Rattle.value_set.specs.Form.{Has, IsNormal, members}
use Rattle.value_set.specs.Summing.{single}
use Rattle.mcs51_chip.specs.declared.place.Address.TheVariants.{InRam as AtRam}
use Rattle.mcs51_chip.specs.declared.state.ChipState.{ChipState}
use Rattle.mcs51_state.specs.declared.addresses.Addresses.TheVariants.{InRam}
use Rattle.mcs51_state.specs.declared.fact.LinearFact.{LinearFact}
use Rattle.mcs51_state.specs.Forms.{IsKnown, IsLinear}
use Rattle.mcs51_state.specs.Known.{Known}
use Rattle.mcs51_state.specs.Under.{IsUnder}
use Rattle.mcs51_state.specs.Reading.{ram_values, read_byte}
use Rattle.mcs51_alu.specs.LinearFacts.{linear_value, linear_values}
use Rattle.mcs51_results.specs.InstructionLaws.{InstructionLaws}

value_small : (fact : LinearFact) (v : ℕ) → linear_value fact v < 256
value_small fact v = mod-lt (fact.factor * v + fact.added) {m = 256} (omega arith)

ram_normal : (laws : InstructionLaws) (framed : Bool) (a : Known) (place : ℕ) → place < 256 → IsKnown framed a
    → IsNormal 256 (ram_values a (single place))
unfolding read_byte
ram_normal laws framed a place small form = (laws.operands.reads.form framed a form (InRam (single place)) (laws.known.sets.single 256 place small).0).normal

ram_has : (laws : InstructionLaws) (framed : Bool) (a : Known) (s : ChipState) (first : Option ChipState) (place : ℕ)
    → place < 256 → IsUnder framed a s first
    → Has 256 (ram_values a (single place)) (slice_index s.ram place)
unfolding read_byte
ram_has laws framed a s first place small under =
    let one = laws.known.sets.single 256 place small in
    (laws.operands.reads.byte framed a s first under (InRam (single place)) (AtRam place) (slice_index s.ram place) one.1 one.0 refl).0

map_below : (f : ℕ → ℕ) (m : ℕ) → ((x : ℕ) → f x < m) → (xs : List ℕ) (y : ℕ) → Contains (map f xs) y → y < m
map_below f m below xs y h = let (x, there, is) = from_map f xs y h in subst (λ n. n < m) is (below x)

pub mapped_some : (f : ℕ → ℕ) (xs ys : List ℕ) → ys ≡ map f xs → 1 ≤ length xs → length ys ≡ 0 → ⊥
mapped_some f xs ys same some none = let count : length ys ≡ length xs = ap length same ∙ length-map xs f in omega (arith, some, none, count)

pub values_normal : (laws : InstructionLaws) (framed : Bool) (a : Known) (fact : LinearFact) → IsLinear (Some fact)
    → IsKnown framed a → IsNormal 256 (linear_values a fact)
unfolding linear_values
values_normal laws framed a fact is form =
    let all = members 256 (ram_values a (single fact.place)) in
    let some : 1 ≤ length all = laws.known.sets.some 256 (ram_values a (single fact.place)) (ram_normal laws framed a fact.place is.0 form) in
    let count : length (map (linear_value fact) all) ≡ length all = length-map all (linear_value fact) in
    laws.known.sets.gather_normal 256 (map (linear_value fact) all) (omega (arith, some, count)) (map_below (linear_value fact) 256 (value_small fact) all)

pub values_have : (laws : InstructionLaws) (framed : Bool) (a : Known) (s : ChipState) (first : Option ChipState) (fact : LinearFact)
    → IsLinear (Some fact) → IsUnder framed a s first
    → Has 256 (linear_values a fact) (linear_value fact (slice_index s.ram fact.place))
unfolding linear_values
values_have laws framed a s first fact is under =
    let all = members 256 (ram_values a (single fact.place)) in
    let r = slice_index s.ram fact.place in
    laws.known.sets.gather_holds 256 (linear_value fact r) (map (linear_value fact) all) (map_below (linear_value fact) 256 (value_small fact) all)
    (in_map (linear_value fact) all r (ram_has laws framed a s first fact.place is.0 under))
