-- Digits without leading zeros: those of a sixteenth, and one more.
use Rattle.std.proofs.Common.{◌≡◌, ℕ, zero, suc, ◌/◌, ◌%◌, ◌<◌, ◌≤◌, ◌++◌, ◌∷◌, [], true, false, nat_lt, if◌then◌else◌, refl, sym, ◌∙◌, ap, inl, inr, arith}
use Rattle.std.proofs.lemmas.Bool.{cases_Bool, cond-true, cond-false, ltb-false, ltb-true}
use Rattle.hex_digits.specs.Digits.{hex_digit, digits_below, short_hex}

-- any bound gives the same digits
same_digits : (bound other n : ℕ) → n < bound → n < other → digits_below bound n ≡ digits_below other n
same_digits zero other n below small = absurd (omega arith)
same_digits (suc bound) zero n below small = absurd (omega arith)
same_digits (suc bound) (suc other) n below small = ap (λ front. front ++ hex_digit (n % 16) ∷ []) (elim (cases_Bool (nat_lt n 16)) [
  | inl t ↦ cond-true _ _ _ t ∙ sym (cond-true _ _ _ t)
  | inr f ↦ let long : 16 ≤ n = ltb-false n 16 f in
      cond-false _ _ _ f ∙ same_digits bound other (n / 16) (omega arith) (omega arith) ∙ sym (cond-false _ _ _ f)
])

pub short_hex-long : (n : ℕ) → 16 ≤ n → short_hex n ≡ short_hex (n / 16) ++ hex_digit (n % 16) ∷ []
unfolding short_hex
short_hex-long n long = ap (λ front. front ++ hex_digit (n % 16) ∷ []) (elim (cases_Bool (nat_lt n 16)) [
  | inl t ↦ absurd (let short : n < 16 = ltb-true n 16 t in omega arith)
  | inr f ↦ cond-false _ _ _ f ∙ same_digits n (suc (n / 16)) (n / 16) (omega arith) (omega arith)
])

pub short_hex-one : (n : ℕ) → n < 16 → short_hex n ≡ hex_digit (n % 16) ∷ []
unfolding short_hex
short_hex-one n small = ap (λ front. front ++ hex_digit (n % 16) ∷ []) (elim (cases_Bool (nat_lt n 16)) [
  | inl t ↦ cond-true _ _ _ t
  | inr f ↦ absurd (let long : 16 ≤ n = ltb-false n 16 f in omega arith)
])
