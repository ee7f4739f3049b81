-- The bytes of RAM that an interrupt's handler may have touched.
use Rattle.std.specs.Prelude.{◌≡◌, ℕ, ◌≤◌, if◌then◌else◌, Bool, true, false, List, [], ◌∷◌}
use Rattle.std.proofs.Common.{refl, sym, subst, inl, inr, arith}
use Rattle.std.proofs.lemmas.Bool.{cases_Bool}
use Rattle.call_context.specs.declared.node.Frame.{Frame}
use Rattle.call_context.specs.declared.node.Frame.TheVariants.{Base, Irq}
use Rattle.irq_frames.specs.KnownLaws.{KnownLaws}
use Rattle.irq_frames.specs.Ranges.{AreRanges, has_address, ranges_within, united}
use Rattle.plain_lemmas.specs.Orders.{IsOrdered}

abbrev pub is_interrupt : Frame → Bool
is_interrupt Base = false
is_interrupt (Irq vector sp level) = true

-- all RAM in an interrupt's frame, and else nothing
abbrev pub all_touched : Bool → (lo hi : ℕ) → List (ℕ × ℕ)
all_touched framed lo hi = if framed then (lo, hi) ∷ [] else []

-- ranges in RAM, of which there are some in an interrupt's frame alone
pub record AreTouched (lo hi : ℕ) (framed : Bool) (touched : List (ℕ × ℕ)) : Type 0 where
  pub are : AreRanges lo hi touched
  pub none : framed ≡ false → touched ≡ []

-- LAWS

all_form : (lo hi : ℕ) (framed : Bool) → lo ≤ hi → AreRanges lo hi (all_touched framed lo hi)
all_form lo hi true le = (omega arith, le, omega arith, tt)
all_form lo hi false le = tt

all_none : (lo hi : ℕ) (framed : Bool) → framed ≡ false → all_touched framed lo hi ≡ []
all_none lo hi true base = absurd (cc)
all_none lo hi false base = refl

pub all_are_touched : (lo hi : ℕ) (framed : Bool) → lo ≤ hi → AreTouched lo hi framed (all_touched framed lo hi)
all_are_touched lo hi framed le = record { are = all_form lo hi framed le; none = all_none lo hi framed }

within_all : KnownLaws → (lo hi : ℕ) (framed : Bool) (touched : List (ℕ × ℕ)) → AreTouched lo hi framed touched
    → ranges_within touched (all_touched framed lo hi) ≡ true
within_all laws lo hi true touched form = laws.ranges.whole lo hi touched form.are
within_all laws lo hi false touched form = subst (λ ranges. ranges_within ranges [] ≡ true) (sym (form.none refl)) refl

united_none : (a b : List (ℕ × ℕ)) → a ≡ [] → b ≡ [] → united a b ≡ []
united_none a b e f = subst (λ ranges. united a ranges ≡ []) (sym f) e

pub touched_ordered : KnownLaws → (lo hi : ℕ) (framed : Bool)
    → IsOrdered (AreTouched lo hi framed) ranges_within united (all_touched framed lo hi)
touched_ordered laws lo hi framed = record {
  itself = λ a form. laws.ranges.itself a;
  along = laws.ranges.along;
  form = λ a b f g. record { are = laws.ranges.unite_form lo hi a b f.are g.are; none = λ base. united_none a b (f.none base) (g.none base) };
  held = λ a b f g. laws.ranges.unite_first a b;
  new = λ a b f g. laws.ranges.unite_second a b;
  whole = within_all laws lo hi framed;
}

-- what isn't touched in the second isn't in the first
pub untouched_more : KnownLaws → (a b : List (ℕ × ℕ)) (at : ℕ) → ranges_within a b ≡ true → has_address b at ≡ false
    → has_address a at ≡ false
untouched_more laws a b at within none = elim (cases_Bool (has_address a at)) [
  | inl some ↦ let there : has_address b at ≡ true = laws.ranges.has at a b within some in absurd (cc)
  | inr lacks ↦ lacks
]
