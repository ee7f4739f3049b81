-- What holds of each number below another, told number by number.
use Prim.Native.Nat.{zero, suc}
use Rattle.std.proofs.Common.{◌≡◌, ℕ, ◌+◌, ◌<◌, ◌≤◌, ◌&&◌, Bool, true, sym, subst, inl, inr, arith}
use Rattle.std.proofs.lemmas.Bool.{and_parts, cases_eq}

-- BY A TEST

abbrev pub passes_below : (ℕ → Bool) → ℕ → Bool
passes_below test zero = true
passes_below test (suc n) = passes_below test n && test n

pub below_passes : (test : ℕ → Bool) (n v : ℕ) → passes_below test n ≡ true → v < n → test v ≡ true
below_passes test zero v passes small = absurd (omega arith)
below_passes test (suc n) v passes small =
    let parts = and_parts (passes_below test n) (test n) passes in
    elim (cases_eq v n) [
      | inl last ↦ subst (λ k. test k ≡ true) (sym last) parts.1
      | inr before ↦ below_passes test n v parts.0 (omega arith)
    ]

-- BY A FACT OF EACH, in ascending order

abbrev pub EachFrom : (ℕ → Type 0) → ℕ → ℕ → Type 0
EachFrom P at zero = Unit {0}
EachFrom P at (suc count) = P at × EachFrom P (suc at) count

pub one_from : (P : ℕ → Type 0) (at count : ℕ) → EachFrom P at count → (v : ℕ) → at ≤ v → v < at + count → P v
one_from P at zero each v low high = absurd (omega arith)
one_from P at (suc count) each v low high = elim (cases_eq v at) [
  | inl first ↦ subst P (sym first) each.0
  | inr behind ↦ one_from P (suc at) count each.1 v (omega arith) (omega arith)
]

pub one_below : (P : ℕ → Type 0) (count : ℕ) → EachFrom P 0 count → (v : ℕ) → v < count → P v
one_below P count each v small = one_from P 0 count each v (omega arith) (omega arith)

pub one_of_sixteen : (P : ℕ → Type 0) → P 0 → P 1 → P 2 → P 3 → P 4 → P 5 → P 6 → P 7 → P 8 → P 9 → P 10 → P 11 → P 12 → P 13 → P 14 → P 15
    → (v : ℕ) → v < 16 → P v
one_of_sixteen P a b c d e f g h i j k l m n o p v small =
    one_below P 16 (a, (b, (c, (d, (e, (f, (g, (h, (i, (j, (k, (l, (m, (n, (o, (p, tt)))))))))))))))) v small
