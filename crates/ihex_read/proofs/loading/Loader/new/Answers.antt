use Rattle.std.proofs.Common.{ℕ, ◌≡◌, inl, inr, List, length, refl, ap, ◌∙◌, arith}
use Rattle.std.specs.Prelude.{Option, None, Some, replicate}
use Rattle.std.proofs.lemmas.Bool.{cases_lt}
use Rattle.std.proofs.lemmas.List.{get_or-replicate, get_or_past, length-replicate}
use Rattle.image.specs.Image.{byte_at}
use Rattle.ihex_read.proofs.MadeLemmas.{made_nothing}
use Rattle.ihex_read.proofs.loading.Loader.new.Goals as goal

abbrev none : Option ℕ
none = None

-- nothing else is a clone of `None`
none_only : (P : Option ℕ → Type 0) → ((v : ℕ) → P (Some v) → ⊥) → (place : Option ℕ) → P place → place ≡ None
none_only P other None h = refl
none_only P other (Some v) h = absurd (other v h)

nothing_at : (image : List (Option ℕ)) (n : ℕ) → image ≡ replicate n None → (at : ℕ) → byte_at image at ≡ None
nothing_at image n e at = rw e (elim (cases_lt at n) [
  | inl below ↦ get_or-replicate n at None None below
  | inr past ↦ get_or_past (replicate n None) at None (omega (arith, length-replicate n none))
])

size_of : (image : List (Option ℕ)) (n : ℕ) → image ≡ replicate n None → length image ≡ n
size_of image n e = ap length e ∙ length-replicate n None

pub returns-clause-made : goal.returns-clause-made
returns-clause-made c = let same = c.in_ok-vec.ensures.items_if_clones_equal (none_only _ (λ v clone. clone)) in
    made_nothing c.in_ok-vec.field-0.items (size_of c.in_ok-vec.field-0.items 65536 same) (nothing_at c.in_ok-vec.field-0.items 65536 same)
