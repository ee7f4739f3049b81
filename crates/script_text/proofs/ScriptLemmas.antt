-- The numbers of lines that follow others.
use Rattle.std.proofs.Common.{◌≡◌, ℕ, suc, ◌+◌, ◌<◌, refl, arith, inl, inr, List, [], ◌∷◌, ◌++◌, length, Ok, Err}
use Rattle.script_text.specs.Script.{is_number, number_of, numbers_behind}
use Rattle.std.proofs.lemmas.Bool.{cases_Bool}

-- lines behind those that gave these numbers
pub behind_more : (whole lines : List (List ℕ)) (count n : ℕ) (numbers got : List ℕ)
    → numbers_behind count numbers whole ≡ Ok got → n ≡ count + length whole →
    numbers_behind count numbers (whole ++ lines) ≡ numbers_behind n got lines
behind_more [] lines count n numbers got e is =
    let same : numbers ≡ got = cc in
    let number : n ≡ count = omega arith in
    rw (same, number) refl
behind_more ([] ∷ whole) lines count n numbers got e is = behind_more whole lines (suc count) n numbers got e (omega arith)
behind_more ((b ∷ bytes) ∷ whole) lines count n numbers got e is = elim (cases_Bool (is_number (b ∷ bytes))) [
  | inl number ↦ rw number (behind_more whole lines (suc count) n (numbers ++ number_of (b ∷ bytes) ∷ []) got (rw number at e) (omega arith))
  | inr other ↦ absurd (cc (rw other at e))
]

-- a refused line is counted behind those in front
pub refused_above : (lines : List (List ℕ)) (count k : ℕ) (numbers : List ℕ) → numbers_behind count numbers lines ≡ Err k → count < k
refused_above [] count k numbers e = absurd (cc)
refused_above ([] ∷ lines) count k numbers e = omega (arith, refused_above lines (suc count) k numbers e)
refused_above ((b ∷ bytes) ∷ lines) count k numbers e = elim (cases_Bool (is_number (b ∷ bytes))) [
  | inl number ↦ omega (arith, refused_above lines (suc count) k (numbers ++ number_of (b ∷ bytes) ∷ []) (rw number at e))
  | inr other ↦
      (let refused : Err (suc count) ≡ Err k = rw other at e in
      let same : suc count ≡ k = cc in
      omega arith)
]
