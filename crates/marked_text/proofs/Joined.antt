-- A text to which two parts were added, one after the other, has them joined behind it.
use Rattle.std.proofs.Common.{◌≡◌, ℕ, ◌++◌, ap, ◌∙◌, List, append_assoc}

pub joined : (t a b : List ℕ) {t₁ t₂ : List ℕ} → t₁ ≡ t ++ a → t₂ ≡ t₁ ++ b → t₂ ≡ t ++ (a ++ b)
joined t a b one two = two ∙ ap (λ u. u ++ b) one ∙ append_assoc t a b
