use Rattle.std.proofs.Common.{◌≡◌, refl, sym, ◌∙◌, ap, List, ℕ}
use Rattle.std.specs.Prelude.{Option, None, Some}
use Rattle.std.proofs.lemmas.List.{drop_all}
use Rattle.image.specs.Image.{placed}
use Rattle.image.proofs.address_map.Image.with_bytes.Goals as goal

-- nothing else is a clone of `None`
none_only : (P : Option ℕ → Type 0) → ((v : ℕ) → P (Some v) → ⊥) → (place : Option ℕ) → P place → place ≡ None
none_only P other None h = refl
none_only P other (Some v) h = absurd (other v h)

pub returns : goal.returns
returns c =
    ap (λ (bytes : List ℕ). placed c.loop-byte.at bytes c.loop-byte.places.items) (sym (drop_all c.loop-byte.byte-index c.args.bytes.now c.loop-byte-test.false))
    ∙ c.loop-byte.invariant.rest ∙ ap (λ (places : List (Option ℕ)). placed c.args.at c.args.bytes.now places) (c.in_ok-places.ensures.items_if_clones_equal (none_only _ (λ v clone. clone)))
