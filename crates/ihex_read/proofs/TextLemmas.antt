-- Where accepted lines stop.
use Rattle.std.proofs.Common.{◌≡◌, ℕ, ◌<◌, inl, inr, Bool, true, false, List, [], ◌∷◌, ◌++◌, length, take, get_or, refl, sym, ◌∙◌, ap, length-append, arith}
use Rattle.std.specs.Prelude.{None, Some}
use Rattle.std.proofs.lemmas.Bool.{cases_lt}
use Rattle.std.proofs.lemmas.List.{append-nil}
use Rattle.image.specs.declared.rule_set.Rules.{Rules}
use Rattle.ihex_read.specs.declared.fault.HexFault.{HexFault}
use Rattle.ihex_read.specs.ImageText.{fault_of, is_end, IsOpen, Ends}

pub both_ends : (b : Bool) → b ≡ true → b ≡ false → ⊥
both_ends true h g = cc g
both_ends false h g = cc h

-- one list of lines cut at two places
prefix_at : (b₁ b₂ : List (List ℕ)) (line : List ℕ) (r₁ r₂ : List (List ℕ)) → b₁ ++ line ∷ r₁ ≡ b₂ ++ r₂ → length b₁ < length b₂
    → (take (length b₁) b₂ ≡ b₁) × (get_or b₂ (length b₁) [] ≡ line)
prefix_at b₁ [] line r₁ r₂ e h = absurd (omega arith)
prefix_at [] (y ∷ b₂) line r₁ r₂ e h = (refl, cc e)
prefix_at (x ∷ b₁) (y ∷ b₂) line r₁ r₂ e h =
    let tail : b₁ ++ line ∷ r₁ ≡ b₂ ++ r₂ = cc e in
    let head : x ≡ y = cc e in
    let rest = prefix_at b₁ b₂ line r₁ r₂ tail (omega arith) in
    (cc (rest.0, head), rest.1)

pub same_cut : (b₁ b₂ : List (List ℕ)) (l₁ l₂ : List ℕ) (r₁ r₂ : List (List ℕ)) → b₁ ++ l₁ ∷ r₁ ≡ b₂ ++ l₂ ∷ r₂ → length b₁ ≡ length b₂
    → (b₁ ≡ b₂) × (l₁ ≡ l₂) × (r₁ ≡ r₂)
same_cut [] [] l₁ l₂ r₁ r₂ e h = (refl, cc e, cc e)
same_cut [] (y ∷ b₂) l₁ l₂ r₁ r₂ e h = absurd (omega arith)
same_cut (x ∷ b₁) [] l₁ l₂ r₁ r₂ e h = absurd (omega arith)
same_cut (x ∷ b₁) (y ∷ b₂) l₁ l₂ r₁ r₂ e h =
    let tail : b₁ ++ l₁ ∷ r₁ ≡ b₂ ++ l₂ ∷ r₂ = cc e in
    let head : x ≡ y = cc e in
    let rest = same_cut b₁ b₂ l₁ l₂ r₁ r₂ tail (omega arith) in
    (cc (rest.0, head), rest.1, rest.2)

-- a line among open ones is accepted, and is no end record
pub among_open : (rules : Rules) (b₁ b₂ : List (List ℕ)) (line : List ℕ) (r₁ r₂ : List (List ℕ))
    → b₁ ++ line ∷ r₁ ≡ b₂ ++ r₂ → length b₁ < length b₂
    → IsOpen rules b₂ → (fault_of rules b₁ line ≡ None) × (is_end line ≡ false)
among_open rules b₁ b₂ line r₁ r₂ e h all_open =
    let place = prefix_at b₁ b₂ line r₁ r₂ e h in
    let facts = all_open (length b₁) h in
    (ap (λ b. fault_of rules b line) (sym place.0) ∙ ap (λ l. fault_of rules (take (length b₁) b₂) l) (sym place.1) ∙ facts.0, ap is_end (sym place.1) ∙ facts.1)

-- the lines before the end record are determined
pub one_end : (rules : Rules) (lines b₁ b₂ : List (List ℕ)) (l₁ l₂ : List ℕ) (r₁ r₂ : List (List ℕ))
    → Ends rules lines b₁ l₁ r₁ → Ends rules lines b₂ l₂ r₂
    → (b₁ ≡ b₂) × (l₁ ≡ l₂) × (r₁ ≡ r₂)
one_end rules lines b₁ b₂ l₁ l₂ r₁ r₂ e₁ e₂ =
    let same = sym e₁.whole ∙ e₂.whole in
    elim (cases_lt (length b₁) (length b₂)) [
      | inl less ↦ absurd (both_ends (is_end l₁) e₁.ends (among_open rules b₁ b₂ l₁ r₁ (l₂ ∷ r₂) same less e₂.open_before).1)
      | inr more ↦ elim (cases_lt (length b₂) (length b₁)) [
        | inl less ↦ absurd (both_ends (is_end l₂) e₂.ends (among_open rules b₂ b₁ l₂ r₂ (l₁ ∷ r₁) (sym same) less e₁.open_before).1)
        | inr equal ↦ same_cut b₁ b₂ l₁ l₂ r₁ r₂ same (omega arith)
      ]
    ]

-- no end record is accepted behind a faulty line
pub no_end_behind_fault : (rules : Rules) (lines b₁ b₂ : List (List ℕ)) (l₁ l₂ : List ℕ) (r₁ r₂ : List (List ℕ)) (fault : HexFault)
    → lines ≡ b₁ ++ l₁ ∷ r₁
    → IsOpen rules b₁ → Some fault ≡ fault_of rules b₁ l₁ → Ends rules lines b₂ l₂ r₂ → ⊥
no_end_behind_fault rules lines b₁ b₂ l₁ l₂ r₁ r₂ fault whole all_open faulty e₂ =
    let same = sym whole ∙ e₂.whole in
    elim (cases_lt (length b₁) (length b₂)) [
      | inl less ↦ let accepted = (among_open rules b₁ b₂ l₁ r₁ (l₂ ∷ r₂) same less e₂.open_before).0 in cc (faulty, accepted)
      | inr more ↦ elim (cases_lt (length b₂) (length b₁)) [
        | inl less ↦ both_ends (is_end l₂) e₂.ends (among_open rules b₂ b₁ l₂ r₂ (l₁ ∷ r₁) (sym same) less all_open).1
        | inr equal ↦ let cut = same_cut b₁ b₂ l₁ l₂ r₁ r₂ same (omega arith) in cc (faulty, e₂.accepted, cut.0, cut.1)
      ]
    ]

-- nor among open lines
pub no_end_among_open : (rules : Rules) (lines before : List (List ℕ)) (line : List ℕ) (behind : List (List ℕ))
    → IsOpen rules lines → Ends rules lines before line behind → ⊥
no_end_among_open rules lines before line behind all_open ends =
    let fits : length before < length lines = omega (arith, ap length ends.whole, length-append before (line ∷ behind)) in
    both_ends (is_end line) ends.ends (among_open rules before lines line behind [] (sym ends.whole ∙ sym (append-nil lines)) fits all_open).1
