-- Fields: the text of a value, and the value of a text.
use Rattle.std.specs.Prelude.{◌≡◌, ℕ, ◌==◌, ◌||◌, if◌then◌else◌, Bool, true, false, Option, None, Some, option_map, option_and_then, List, [], ◌∷◌, ◌++◌}
use Rattle.std.proofs.Common.{refl, sym, ap, ◌∙◌}
use Rattle.std.proofs.lemmas.Bool.{eq-eqb}
use Rattle.std.proofs.lemmas.Option.{none-some, same_Some}

-- the text of a value, the value of a text, and the values that have a text
pub record Spelling (A : Type 0) : Type 1 where
  pub text : A → List ℕ
  pub value : List ℕ → Option A
  pub Form : A → Type 0

-- no value has two spellings, and no text but a spelling is read
pub record IsExact {A : Type 0} (s : Spelling A) : Type 0 where
  pub back : (a : A) → s.Form a → s.value (s.text a) ≡ Some a
  pub only : (text : List ℕ) (a : A) → s.value text ≡ Some a → s.Form a × (s.text a ≡ text)

-- the byte stands in the text
abbrev pub has_byte : ℕ → List ℕ → Bool
has_byte at [] = false
has_byte at (b ∷ text) = (b == at) || has_byte at text

-- no spelling has the byte
abbrev pub Avoids : {A : Type 0} → Spelling A → ℕ → Type 0
Avoids {A} s at = (a : A) → s.Form a → has_byte at (s.text a) ≡ false

-- LAWS

pub then_only : {A B P : Type 0} (f : A → Option B) (o : Option A) (b : B) → option_and_then f o ≡ Some b
    → ((a : A) → o ≡ Some a → f a ≡ Some b → P) → P
then_only f None b e go = absurd (none-some b e)
then_only f (Some a) b e go = go a refl e

pub map_only : {A B P : Type 0} (f : A → B) (o : Option A) (b : B) → option_map f o ≡ Some b → ((a : A) → o ≡ Some a → f a ≡ b → P) → P
map_only f None b e go = absurd (none-some b e)
map_only f (Some a) b e go = go a refl (same_Some (f a) b e)

-- a test that lets a value through
pub test_only : {A P : Type 0} (passes : Bool) (a b : A) → (if passes then Some a else None) ≡ Some b → (passes ≡ true → a ≡ b → P) → P
test_only true a b e go = go refl (same_Some a b e)
test_only false a b e go = absurd (none-some b e)

-- two values with one text are one value
pub once : {A : Type 0} (s : Spelling A) → IsExact s → (a b : A) → s.Form a → s.Form b → s.text a ≡ s.text b → a ≡ b
once s h a b first second same = same_Some a b (sym (h.back a first) ∙ ap s.value same ∙ h.back b second)

or_more : (first all front rest : Bool) → all ≡ (front || rest) → (first || all) ≡ ((first || front) || rest)
or_more true all front rest e = refl
or_more false all front rest e = e

pub has_byte-append : (at : ℕ) (front rest : List ℕ) → has_byte at (front ++ rest) ≡ (has_byte at front || has_byte at rest)
has_byte-append at [] rest = refl
has_byte-append at (b ∷ front) rest = or_more (b == at) _ _ _ (has_byte-append at front rest)

-- both parts of a text avoid what it avoids
pub has_byte-both : (at : ℕ) (front rest : List ℕ) → has_byte at front ≡ false → has_byte at rest ≡ false
    → has_byte at (front ++ rest) ≡ false
has_byte-both at front rest none nor = rw (has_byte-append at front rest, none) nor

pub has_byte-between : (at between : ℕ) (front rest : List ℕ) → (between == at) ≡ false → has_byte at front ≡ false
    → has_byte at rest ≡ false
    → has_byte at (front ++ between ∷ rest) ≡ false
has_byte-between at between front rest other none nor = has_byte-both at front (between ∷ rest) none (rw other nor)

or_true : (b : Bool) → (b || true) ≡ true
or_true true = refl
or_true false = refl

pub has_byte-first : (at : ℕ) (rest : List ℕ) → has_byte at (at ∷ rest) ≡ true
has_byte-first at rest = rw (eq-eqb at at refl) refl

pub has_byte-at : (at : ℕ) (front rest : List ℕ) → has_byte at (front ++ at ∷ rest) ≡ true
has_byte-at at front rest = rw (has_byte-append at front (at ∷ rest), eq-eqb at at refl) (or_true (has_byte at front))

pub has_byte-left : (at : ℕ) (front rest : List ℕ) → has_byte at front ≡ true → has_byte at (front ++ rest) ≡ true
has_byte-left at front rest has = rw (has_byte-append at front rest, has) refl
