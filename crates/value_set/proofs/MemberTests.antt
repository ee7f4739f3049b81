-- Whether a number is a member, the numbers of lists and runs by their places, and short lists.
use Prim.Native.Nat.{zero, suc}
use Rattle.std.proofs.Common.{◌≡◌, ℕ, ◌+◌, ◌%◌, ◌<◌, ◌==◌, Bool, true, List, [], ◌∷◌, length, get_or, refl, sym, ap, ◌∙◌, inl, inr, subst, arith}
use Rattle.std.specs.Prelude.{◌↔◌, IsTrue}
use Rattle.std.specs.List.{Contains, list_any}
use Rattle.std.proofs.lemmas.Bool.{cases_Bool, le-ltb, ne_eqb}
use Rattle.value_set.specs.declared.form.Form.{Form}
use Rattle.value_set.specs.declared.form.Form.TheVariants.{Values}
use Rattle.value_set.specs.Form.{Ascends, Has, IsNormal, ascending, gather, members, put, set_of}
use Rattle.value_set.specs.Joining.{is_in}
use Rattle.value_set.specs.Summing.{single}
use Rattle.value_set.proofs.Joins.{any_in, in_any}
use Rattle.value_set.specs.Remainders.{HasRemainder}
use Rattle.value_set.specs.ListFacts.{in_from_Contains, Contains_from_in}
use Rattle.value_set.proofs.Members.{ascending_same}
use Rattle.value_set.proofs.Spans.{set_of-few}

pub member_found : (m v : ℕ) (set : Form) → Has m set v → is_in m set v ≡ true
member_found m v set h = in_any v (members m set) (in_from_Contains (members m set) v h)

pub asked : (xs : List ℕ) (v : ℕ) (answer : Bool) → IsTrue answer ↔ Contains xs v → answer ≡ list_any (λ x. x == v) xs
asked xs v answer (there, back) = elim (cases_Bool answer) [
  | inl holds ↦ holds ∙ sym (in_any v xs (in_from_Contains xs v (there holds)))
  | inr none ↦ elim (cases_Bool (list_any (λ x. x == v) xs)) [
    | inl any ↦ back (Contains_from_in xs v (any_in v xs any)) ∙ sym any
    | inr not_any ↦ none ∙ sym not_any
  ]
]

at_below : (low m k d : ℕ) (xs : List ℕ) → Ascends low m xs → k < length xs → get_or xs k d < m
at_below low m k d [] a short = absurd (omega arith)
at_below low m zero d (x ∷ xs) a short = a.1
at_below low m (suc k) d (x ∷ xs) a short = at_below (x + 1) m k d xs a.2 (omega arith)

pub listed : (m k d : ℕ) (xs : List ℕ) → IsNormal m (Values xs) → k < length xs → get_or xs k d < m
listed m k d xs normal = at_below 0 m k d xs normal.2

pub only_number : (m n v : ℕ) → Has m (single n) v → n ≡ v
only_number m n v (zero, short, is) = is
only_number m n v (suc k, short, is) = absurd (omega (arith, short))

pub single_rest : (m n r v : ℕ) → v % n ≡ r → HasRemainder m n r (single v)
single_rest m n r v is w there = subst (λ (x : ℕ). x % n ≡ r) (only_number m v w there) is

pub gather_same : (m : ℕ) (xs : List ℕ) → IsNormal m (Values xs) → gather m xs ≡ Values xs
gather_same m xs normal = ap (set_of m) (ascending_same m xs normal.2) ∙ set_of-few m xs normal.1

two_ascend : (low high : ℕ) → low < high → ascending (low ∷ high ∷ []) ≡ low ∷ high ∷ []
unfolding put
two_ascend low high less =
    let above = le-ltb high low (omega (arith, less)) in
    let other = ne_eqb high low (λ same. omega (arith, same, less)) in
    rw (above, other) refl

pub gather_two : (m low high : ℕ) → low < high → gather m (low ∷ high ∷ []) ≡ Values (low ∷ high ∷ [])
gather_two m low high less = ap (set_of m) (two_ascend low high less) ∙ set_of-few m (low ∷ high ∷ []) (omega arith)
