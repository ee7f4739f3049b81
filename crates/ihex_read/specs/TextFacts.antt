-- Lines behind others: what they place, and that they stay open. Lemmas, also for the proofs of crates above.
use Rattle.std.proofs.Common.{◌≡◌, inl, inr, false, List, [], ◌∷◌, ◌++◌, length, refl, sym, ap, ◌∙◌, append_assoc, length-append, arith}
use Rattle.std.specs.Prelude.{ℕ, None}
use Rattle.std.proofs.lemmas.Bool.{cases_lt}
use Rattle.std.proofs.lemmas.List.{take-append-le, get_or_append_left}
use Rattle.std.proofs.Math.Seq.{take-append_seam, get_or-append_seam}
use Rattle.image.specs.declared.rule_set.Rules.{Rules}
use Rattle.ihex_read.specs.ImageText.{base_from, fault_of, is_end, IsOpen, placed_from}
use Rattle.ihex_read.specs.Record.{base_behind, placed_by, record_of}

pub base_from-append : (base : ℕ) (lines more : List (List ℕ)) → base_from base (lines ++ more) ≡ base_from (base_from base lines) more
base_from-append base [] more = refl
base_from-append base (line ∷ lines) more = base_from-append (base_behind base (record_of line)) lines more

pub placed_from-append : (base : ℕ) (lines more : List (List ℕ))
    → placed_from base (lines ++ more) ≡ placed_from base lines ++ placed_from (base_from base lines) more
placed_from-append base [] more = refl
placed_from-append base (line ∷ lines) more =
    ap (λ bytes. placed_by base (record_of line) ++ bytes) (placed_from-append (base_behind base (record_of line)) lines more)
    ∙ sym (append_assoc (placed_by base (record_of line)) (placed_from (base_behind base (record_of line)) lines) _)

-- open lines, and one more
pub open_more : (rules : Rules) (before : List (List ℕ)) (line : List ℕ) → IsOpen rules before
    → fault_of rules before line ≡ None → is_end line ≡ false
    → IsOpen rules (before ++ line ∷ [])
open_more rules before line all_open accepted no_end k h = elim (cases_lt k (length before)) [
  | inl less ↦
      let front = take-append-le k before (line ∷ []) (omega arith) in
      let place = get_or_append_left before (line ∷ []) [] k less in
      rw (front, place) (all_open k less)
  | inr past ↦
      let last : k ≡ length before = omega (arith, length-append before (line ∷ [])) in
      rw (last, take-append_seam before (line ∷ []), get_or-append_seam before line [] []) (accepted, no_end)
]
