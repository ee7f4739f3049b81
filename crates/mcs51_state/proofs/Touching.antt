-- The bytes that a write touches.
use Rattle.std.proofs.Common.{◌≡◌, ℕ, ◌+◌, ◌-◌, ◌*◌, ◌<◌, ◌≤◌, Bool, true, false, Option, None, Some, List, [], ◌∷◌, set, sym, ◌∙◌, subst, inl, inr, arith, Contains, get_or-set_other}
use Rattle.std.specs.Prelude.{nat_le, if◌then◌else◌, slice_index}
use Rattle.std.proofs.lemmas.Bool.{and_from, or_right, or_left, cond_both, leb-false, le-leb, false_from_ne_true, both_ways}
use Rattle.std.proofs.Math.Nat.{mod-eq_of_lt, mul-le-mul_right}
use Rattle.plain_lemmas.specs.Members.{in_none, in_cons}
use Rattle.irq_frames.specs.Ranges.{AreRanges, has_address, lies_in, with_range}
use Rattle.value_set.specs.declared.form.Form.{Form}
use Rattle.value_set.specs.declared.form.Form.TheVariants.{Values, Run}
use Rattle.value_set.specs.Form.{Has, IsNormal}
use Rattle.value_set.specs.StepFacts.{steps_from}
use Rattle.value_set.specs.Joining.{reach}
use Rattle.irq_frames.specs.KnownLaws.{KnownLaws}
use Rattle.mcs51_chip.specs.declared.state.ChipState.{ChipState}
use Rattle.mcs51_state.specs.Holding.{KeepsUntouched}
use Rattle.mcs51_state.specs.Under.{IsFramed}
use Rattle.mcs51_state.specs.Writing.{touch_each, touched_behind}
use Rattle.mcs51_state.proofs.WrittenCells.{AreLow, rest_low, first_low}

-- ranges in RAM that have what was touched before
pub record Grows (before after : List (ℕ × ℕ)) : Type 0 where
  pub form : AreRanges 0 255 after
  pub keeps : (b : ℕ) → has_address before b ≡ true → has_address after b ≡ true

range_grows : (laws : KnownLaws) (low high : ℕ) (touched : List (ℕ × ℕ)) → low ≤ high → high ≤ 255
    → AreRanges 0 255 touched → Grows touched (with_range low high touched)
range_grows laws low high touched up top are = record {
  form = laws.ranges.add_form 0 255 low high touched (omega arith) up top are;
  keeps = λ b has. laws.ranges.add 0 255 b low high touched up are ∙ or_left (has_address touched b) (lies_in (b, b) (low, high)) has;
}

range_has : (laws : KnownLaws) (low high b : ℕ) (touched : List (ℕ × ℕ)) → AreRanges 0 255 touched → low ≤ b → b ≤ high
    → has_address (with_range low high touched) b ≡ true
range_has laws low high b touched are h k = laws.ranges.add 0 255 b low high touched (omega (arith, h, k)) are
    ∙ or_right (has_address touched b) (lies_in (b, b) (low, high)) (and_from (nat_le low b) (nat_le b high) (le-leb low b h) (le-leb b high k))

grows_on : (one two three : List (ℕ × ℕ)) → Grows one two → Grows two three → Grows one three
grows_on one two three h k = record { form = k.form; keeps = λ b has. k.keeps b (h.keeps b has) }

each_grows : (laws : KnownLaws) (list : List ℕ) (touched : List (ℕ × ℕ)) → AreLow list → AreRanges 0 255 touched
    → Grows touched (touch_each list touched)
each_grows laws [] touched low are = record { form = are; keeps = λ b has. has }
each_grows laws (at ∷ rest) touched low are =
    let one = range_grows laws at at touched (omega arith) (omega (arith, first_low at rest low)) are in
    grows_on touched (with_range at at touched) (touch_each rest (with_range at at touched)) one
    (each_grows laws rest (with_range at at touched) (rest_low at rest low) one.form)

each_touched : (laws : KnownLaws) (b : ℕ) (list : List ℕ) (touched : List (ℕ × ℕ)) → AreLow list → AreRanges 0 255 touched → Contains list b
    → has_address (touch_each list touched) b ≡ true
each_touched laws b [] touched low are there = absurd (in_none b there)
each_touched laws b (at ∷ rest) touched low are there =
    let one = range_grows laws at at touched (omega arith) (omega (arith, first_low at rest low)) are in
    elim (in_cons at rest b there) [
      | inl same ↦
          let more = each_grows laws rest (with_range at at touched) (rest_low at rest low) one.form in
          more.keeps b (range_has laws at at b touched are (omega (arith, same)) (omega (arith, same)))
      | inr later ↦ each_touched laws b rest (with_range at at touched) (rest_low at rest low) one.form later
    ]

pub behind_grows : (laws : KnownLaws) (at : Form) (touched : List (ℕ × ℕ)) → IsNormal 256 at → AreRanges 0 255 touched
    → Grows touched (touched_behind at touched)
behind_grows laws (Values xs) touched normal are = each_grows laws xs touched (λ v h. laws.sets.below 256 v (Values xs) normal h) are
behind_grows laws (Run p) touched normal are =
    cond_both (nat_le 256 (p.base + reach p)) (with_range 0 255 touched) (with_range p.base (p.base + reach p) touched) (Grows touched)
    (λ e. range_grows laws 0 255 touched (omega arith) (omega arith) are)
    (λ e. let once : p.base + reach p < 256 = leb-false 256 (p.base + reach p) e in
    range_grows laws p.base (p.base + reach p) touched (omega arith) (omega (arith, once)) are)

pub behind_touched : (laws : KnownLaws) (b : ℕ) (at : Form) (touched : List (ℕ × ℕ)) → IsNormal 256 at
    → AreRanges 0 255 touched → Has 256 at b
    → has_address (touched_behind at touched) b ≡ true
behind_touched laws b (Values xs) touched normal are there = each_touched laws b xs touched (λ v h. laws.sets.below 256 v (Values xs) normal h) are there
behind_touched laws b (Run p) touched normal are there =
    let (i, inside, is) = steps_from 256 p.base p.stride p.count b there in
    let below = laws.sets.below 256 b (Run p) normal there in
    let most : i * p.stride ≤ (p.count - 1) * p.stride = mul-le-mul_right p.stride (omega (arith, inside)) in
    cond_both (nat_le 256 (p.base + reach p)) (with_range 0 255 touched) (with_range p.base (p.base + reach p) touched) (λ ranges. has_address ranges b ≡ true)
    (λ e. range_has laws 0 255 b touched are (omega arith) (omega (arith, below)))
    (λ e. let once : p.base + reach p < 256 = leb-false 256 (p.base + reach p) e in
    let plain : b ≡ p.base + i * p.stride = is ∙ mod-eq_of_lt {n = p.base + i * p.stride} {m = 256} (omega (arith, once, most)) in
    range_has laws p.base (p.base + reach p) b touched are (omega (arith, plain)) (omega (arith, plain, most)))

pub touched_form : (laws : KnownLaws) (framed : Bool) (at : Form) (touched : List (ℕ × ℕ)) → IsNormal 256 at → AreRanges 0 255 touched
    → AreRanges 0 255 (if framed then touched_behind at touched else touched)
touched_form laws true at touched normal are = let grown = behind_grows laws at touched normal are in grown.form
touched_form laws false at touched normal are = are

pub touched_none : (framed : Bool) (at : Form) (touched : List (ℕ × ℕ)) → (framed ≡ false → touched ≡ []) → framed ≡ false
    → (if framed then touched_behind at touched else touched) ≡ []
touched_none true at touched none base = absurd (cc)
touched_none false at touched none base = none base

stays_untouched : (laws : KnownLaws) (s f : ChipState) (at : Form) (touched : List (ℕ × ℕ)) (address x b : ℕ)
    → IsNormal 256 at → AreRanges 0 255 touched → Has 256 at address
    → KeepsUntouched touched s (Some f) → has_address (touched_behind at touched) b ≡ false
    → slice_index (set s.ram address x) b ≡ slice_index f.ram b
stays_untouched laws s f at touched address x b normal are there keeps none =
    let grows = behind_grows laws at touched normal are in
    let before : has_address touched b ≡ false = false_from_ne_true (has_address touched b) (λ has. both_ways (has_address (touched_behind at touched) b) none (grows.keeps b has)) in
    let other : b ≡ address → ⊥ = λ e. both_ways (has_address (touched_behind at touched) b) none
    (subst (λ n. has_address (touched_behind at touched) n ≡ true) (sym e) (behind_touched laws address at touched normal are there)) in
    get_or-set_other s.ram address b x 0 other ∙ keeps b before

pub untouched_stay : (laws : KnownLaws) (framed : Bool) (s : ChipState) (first : Option ChipState) (at : Form) (touched : List (ℕ × ℕ)) (address x : ℕ)
    → IsFramed framed first → IsNormal 256 at
    → AreRanges 0 255 touched → Has 256 at address → KeepsUntouched touched s first
    → KeepsUntouched (if framed then touched_behind at touched else touched) (record s { ram = set s.ram address x }) first
untouched_stay laws framed s None at touched address x base normal are there keeps = tt
untouched_stay laws true s (Some f) at touched address x base normal are there keeps = λ b none. stays_untouched laws s f at touched address x b normal are there keeps none
untouched_stay laws false s (Some f) at touched address x base normal are there keeps = absurd (cc)
