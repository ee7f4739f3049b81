-- What is made of a set's own form is the set.
use Rattle.std.proofs.Common.{◌≡◌, ℕ, zero, suc, ◌+◌, ◌*◌, ◌%◌, ◌<◌, ◌≤◌, refl, sym, ap, ◌∙◌, true, false, inl, inr, arith, List, [], ◌∷◌, ◌++◌, append_assoc, length, get_or, nat_lt}
use Rattle.std.specs.Prelude.{◌==◌, nat_le}
use Rattle.std.proofs.lemmas.Bool.{cases_Bool, le-ltb, le-leb, lt-leb, eqb-true}
use Rattle.std.proofs.lemmas.Bool.Decides.{nat_tests}
use Rattle.std.proofs.lemmas.List.{append-nil}
use Rattle.std.proofs.Math.Nat.{mod-eq_of_lt}
use Rattle.value_set.specs.Form.{Ascends, IsNormal, IsNormalRun, put, put_all, set_of, gather, make}
use Rattle.value_set.specs.declared.form.Form.TheVariants.{Values, Run}

pub ascends_below : (low m : ℕ) (xs : List ℕ) (i : ℕ) → Ascends low m xs → i < length xs → get_or xs i 0 < m
ascends_below low m [] i ascends h = absurd (omega arith)
ascends_below low m (x ∷ xs) zero ascends h = ascends.1
ascends_below low m (x ∷ xs) (suc i) ascends h = ascends_below (x + 1) m xs i ascends.2 (omega arith)

abbrev Under : ℕ → List ℕ → Type 0
Under v [] = Unit {0}
Under v (x ∷ xs) = (x < v) × Under v xs

under_one : (low v : ℕ) (xs : List ℕ) → Under low xs → low ≤ v → Under (v + 1) (xs ++ v ∷ [])
under_one low v [] under h = (omega arith, tt)
under_one low v (x ∷ xs) under h = (omega (arith, under.0), under_one low v xs under.1 h)

put_last : (low v : ℕ) (xs : List ℕ) → Under low xs → low ≤ v → put v xs ≡ xs ++ v ∷ []
unfolding put
put_last low v [] under h = refl
put_last low v (x ∷ xs) under h =
    let behind : nat_lt v x ≡ false = le-ltb v x (omega (arith, under.0)) in
    let other : (v == x) ≡ false = grind (arith, nat_tests, under.0, h) in
    rw (behind, other) (ap (λ ys. x ∷ ys) (put_last low v xs under.1 h))

put_rising : (low m : ℕ) (held xs : List ℕ) → Under low held → Ascends low m xs → put_all held xs ≡ held ++ xs
put_rising low m held [] under ascends = sym (append-nil held)
put_rising low m held (x ∷ xs) under ascends =
    let first = put_last low x held under ascends.0 in
    rw first (put_rising (x + 1) m (held ++ x ∷ []) xs (under_one low x held under ascends.0) ascends.2 ∙ append_assoc held (x ∷ []) xs)

pub gather_same : (m : ℕ) (xs : List ℕ) → IsNormal m (Values xs) → gather m xs ≡ Values xs
unfolding set_of
gather_same m xs normal =
    let rising = put_rising 0 m [] xs tt normal.2 in
    let few : nat_le (length xs) 16 ≡ true = le-leb (length xs) 16 normal.1 in
    rw (rising, few) refl

small_rest : (x m : ℕ) → x < m → x % m ≡ x
small_rest x m h = mod-eq_of_lt h

pub make_same : (m base stride count : ℕ) → IsNormalRun m base stride count
    → make m base stride count ≡ Run (record { base = base; stride = stride; count = count })
unfolding make
make_same m base stride count normal =
    let many : nat_le count 16 ≡ false = lt-leb count 16 (omega (arith, normal.long)) in
    let small : base % m ≡ base = small_rest base m normal.below in
    elim (cases_Bool (count * stride == m)) [
      | inl all ↦
          let least : base % stride ≡ base = small_rest base stride (normal.least (eqb-true (count * stride) m all)) in
          rw (many, all, least) refl
      | inr part ↦ rw (many, part, small) refl
    ]
