-- Ascending lists that have a common number, and numbers of lists that are equal.
use Rattle.std.proofs.Common.{◌≡◌, ℕ, ◌+◌, ◌-◌, ◌*◌, ◌<◌, ◌≤◌, Bool, IsTrue, List, [], ◌∷◌, length, take, drop, get_or, refl, sym, ◌∙◌, ap, subst, inl, inr, arith}
use Rattle.std.specs.Prelude.{◌↔◌, ◌==◌}
use Rattle.std.proofs.lemmas.Bool.{cases_lt, eq-eqb, ne_eqb}
use Rattle.std.specs.List.{Contains}
use Rattle.std.proofs.lemmas.List.{length-drop}
use Rattle.std.proofs.Math.Seq.{take-length}
use Rattle.value_set.specs.declared.form.Form.TheVariants.{Values}
use Rattle.value_set.specs.Form.{Ascends, IsNormal}
use Rattle.value_set.specs.Summing.{single}
use Rattle.value_set.specs.ListFacts.{IsIn, in_from_Contains, Contains_from_in}
use Rattle.value_bits.specs.declared.tri.Tri.TheVariants.{Zero, One, Either}
use Rattle.value_bits.specs.Flags.{agreed}
use Rattle.value_bits.specs.Order.{Share}
use Rattle.value_bits.proofs.Choosing.{single_has}
use Rattle.value_bits.proofs.Combinations.{agreed_clear, agreed_set}
use Rattle.value_bits.proofs.Orders.{agreed_mixed, few_too, zero_normal}

ascends_from : (low m v : ℕ) (xs : List ℕ) → Ascends low m xs → IsIn v xs → low ≤ v
ascends_from low m v [] a h = absurd h
ascends_from low m v (x ∷ xs) a (inl e) = omega (arith, a.0, e)
ascends_from low m v (x ∷ xs) a (inr h) = let rest = ascends_from (x + 1) m v xs a.2 h in omega (arith, a.0, rest)

-- ---- the walk

pub ascends_wider : (low m low' m' : ℕ) (xs : List ℕ) → low' ≤ low → m ≤ m' → Ascends low m xs → Ascends low' m' xs
ascends_wider low m low' m' [] h k a = tt
ascends_wider low m low' m' (x ∷ xs) h k a = (omega (arith, h, a.0), omega (arith, k, a.1), ascends_wider (x + 1) m (x + 1) m' xs (omega arith) k a.2)

pub ascends_behind : (m x : ℕ) (xs : List ℕ) → Ascends 0 m (x ∷ xs) → Ascends 0 m xs
ascends_behind m x xs a = ascends_wider (x + 1) m 0 m xs (omega arith) (omega arith) a.2

none_of : (ys : List ℕ) → Share [] ys → ⊥
none_of ys h = in_from_Contains [] h.0 h.1

turned : (xs ys : List ℕ) → Share xs ys → Share ys xs
turned xs ys h = (h.0, h.2, h.1)

-- a number below all of the other list isn't there
pub share_behind : (m x y : ℕ) (xs ys : List ℕ) → Ascends 0 m (y ∷ ys) → x < y → Share xs (y ∷ ys) ↔ Share (x ∷ xs) (y ∷ ys)
share_behind m x y xs ys a less = (
  λ h. (h.0, Contains_from_in (x ∷ xs) h.0 (inr (in_from_Contains xs h.0 h.1)), h.2),
  λ h. elim (in_from_Contains (x ∷ xs) h.0 h.1) [
    | inl is ↦ absurd (let from = ascends_from y m h.0 (y ∷ ys) (omega arith, a.1, a.2) (in_from_Contains (y ∷ ys) h.0 h.2) in omega (arith, from, is, less))
    | inr there ↦ (h.0, Contains_from_in xs h.0 there, h.2)
  ],
)

-- the lists behind their first numbers
behind_first : (xs : List ℕ) → take (length xs - 1) (drop 1 xs) ≡ drop 1 xs
behind_first xs = ap (λ (n : ℕ). take n (drop 1 xs)) (sym (length-drop 1 xs)) ∙ take-length (drop 1 xs)

pub walked_first : (m : ℕ) (xs ys : List ℕ) (found : Bool) → Ascends 0 m ys → get_or xs 0 0 < get_or ys 0 0
    → IsTrue found ↔ Share (take (length xs - 1) (drop 1 xs)) ys → IsTrue found ↔ Share xs ys
walked_first m [] ys found a less h = subst (λ (vs : List ℕ). IsTrue found ↔ Share vs ys) (behind_first []) h
walked_first m (x ∷ xs) [] found a less h = absurd (omega (arith, less))
walked_first m (x ∷ xs) (y ∷ ys) found a less h =
    let rest : IsTrue found ↔ Share xs (y ∷ ys) = subst (λ (vs : List ℕ). IsTrue found ↔ Share vs (y ∷ ys)) (behind_first (x ∷ xs)) h in
    let same = share_behind m x y xs ys a less in
    (λ is. same.0 (rest.0 is), λ is. rest.1 (same.1 is))

pub walked_second : (m : ℕ) (xs ys : List ℕ) (found : Bool) → Ascends 0 m xs → get_or ys 0 0 < get_or xs 0 0
    → IsTrue found ↔ Share xs (take (length ys - 1) (drop 1 ys)) → IsTrue found ↔ Share xs ys
walked_second m xs ys found a less h =
    let back = walked_first m ys xs found a less (λ is. turned xs (take (length ys - 1) (drop 1 ys)) (h.0 is), λ is. h.1 (turned (take (length ys - 1) (drop 1 ys)) xs is)) in
    (λ is. turned ys xs (back.0 is), λ is. back.1 (turned xs ys is))

pub ascends_taken : (m : ℕ) (xs : List ℕ) → Ascends 0 m xs → Ascends 0 m (take (length xs - 1) (drop 1 xs))
ascends_taken m [] a = tt
ascends_taken m (x ∷ xs) a = subst (λ (vs : List ℕ). Ascends 0 m vs) (sym (behind_first (x ∷ xs))) (ascends_behind m x xs a)

-- ---- equality over all combinations

abbrev pub is_equal : ℕ → ℕ → ℕ → Bool
is_equal x y z = x == y

one_of_one : (v : ℕ) (xs : List ℕ) → length xs ≡ 1 → IsIn v xs → xs ≡ v ∷ []
one_of_one v [] one h = absurd h
one_of_one v (x ∷ []) one (inl is) = ap (λ (n : ℕ). n ∷ []) is
one_of_one v (x ∷ []) one (inr h) = absurd h
one_of_one v (x ∷ y ∷ zs) one h = absurd (omega (arith, one))

-- of two numbers or more one is another
other_of : (m v : ℕ) (xs : List ℕ) → 2 ≤ length xs → Ascends 0 m xs → (x : ℕ) × IsIn x xs × (x ≡ v → ⊥)
other_of m v [] more a = absurd (omega (arith, more))
other_of m v (x ∷ []) more a = absurd (omega (arith, more))
other_of m v (x ∷ y ∷ zs) more a = elim (cases_lt x v) [
  | inl under ↦ (x, inl refl, λ is. omega (arith, is, under))
  | inr over ↦ (y, inr (inl refl), λ is. omega (arith, is, over, a.2.0))
]

pub list_ascends : (m : ℕ) (xs : List ℕ) → m ≤ 65536 → IsNormal m (Values xs) → Ascends 0 65536 xs
list_ascends m xs small n = ascends_wider 0 m 0 65536 xs (omega arith) small n.2

list_product : (m : ℕ) (xs ys : List ℕ) → IsNormal m (Values xs) → IsNormal m (Values ys) → length xs * length ys ≤ 256
list_product m xs ys n k = let few = n.1 in let few' = k.1 in let step : length xs * length ys ≤ 16 * 16 = grind arith in omega (arith, step)

same_of : (v x y : ℕ) → IsIn x (v ∷ []) → IsIn y (v ∷ []) → x ≡ y
same_of v x y (inl i) (inl j) = sym i ∙ j
same_of v x y (inr i) j = absurd i
same_of v x y (inl i) (inr j) = absurd j

pub equal_clear : (m : ℕ) (xs ys : List ℕ) → IsNormal m (Values xs) → IsNormal m (Values ys) → (Share xs ys → ⊥)
    → Zero ≡ agreed m is_equal (Values xs) (Values ys) (single 0)
equal_clear m xs ys n k none = sym (agreed_clear m is_equal (Values xs) (Values ys) (single 0) n k (zero_normal m (Values xs) n)
    (few_too (length xs) (length ys) (list_product m xs ys n k))
    (λ x y z h i j. ne_eqb x y (λ is. none (x, h, subst (λ (v : ℕ). Contains ys v) (sym is) i))))

pub equal_set : (m : ℕ) (xs ys : List ℕ) → length xs ≡ 1 → length ys ≡ 1 → Share xs ys
    → One ≡ agreed m is_equal (Values xs) (Values ys) (single 0)
equal_set m xs ys one one' h =
    let first = one_of_one h.0 xs one (in_from_Contains xs h.0 h.1) in
    let second = one_of_one h.0 ys one' (in_from_Contains ys h.0 h.2) in
    let few : length xs * length ys ≤ 256 = rw (one, one') (omega arith) in
    sym (agreed_set m is_equal (Values xs) (Values ys) (single 0) (few_too (length xs) (length ys) few)
    (λ x y z i j k. eq-eqb x y (same_of h.0 x y (in_from_Contains (h.0 ∷ []) x (subst (λ (vs : List ℕ). Contains vs x) first i)) (in_from_Contains (h.0 ∷ []) y (subst (λ (vs : List ℕ). Contains vs y) second j)))))

pub equal_open : (m : ℕ) (xs ys : List ℕ) → IsNormal m (Values xs) → IsNormal m (Values ys) → 3 ≤ length xs + length ys → Share xs ys
    → Either ≡ agreed m is_equal (Values xs) (Values ys) (single 0)
equal_open m xs ys n k more h = elim (cases_lt 1 (length xs)) [
  | inl several ↦
      let other = other_of m h.0 xs (omega (arith, several)) n.2 in
      sym (agreed_mixed m is_equal (Values xs) (Values ys) (single 0) h.0 h.0 0 other.0 h.0 0 h.1 h.2 (single_has m 0)
      (Contains_from_in xs other.0 other.1) h.2 (single_has m 0) (eq-eqb h.0 h.0 refl) (ne_eqb other.0 h.0 other.2))
  | inr alone ↦
      let other = other_of m h.0 ys (omega (arith, alone, more)) k.2 in
      sym (agreed_mixed m is_equal (Values xs) (Values ys) (single 0) h.0 h.0 0 h.0 other.0 0 h.1 h.2 (single_has m 0)
      h.1 (Contains_from_in ys other.0 other.1) (single_has m 0) (eq-eqb h.0 h.0 refl) (ne_eqb h.0 other.0 (λ is. other.2 (sym is))))
]
