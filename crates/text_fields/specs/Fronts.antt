-- Fields in front of others: what stands in front of the first such byte, and the text behind it.
use Rattle.std.specs.Prelude.{◌≡◌, ℕ, ◌==◌, suc, Option, None, Some, option_map, option_and_then, false, List, [], ◌∷◌, ◌++◌, length}
use Rattle.std.specs.List.{AllByRecursion}
use Rattle.std.proofs.Common.{refl, ap, ◌∙◌, subst, arith, append_assoc}
use Rattle.std.proofs.lemmas.Option.{same_Some}
use Rattle.text_fields.specs.Spelling.{Spelling, IsExact, Avoids, has_byte, has_byte-both, has_byte-between, then_only, map_only}
use Rattle.text_fields.specs.Fields.{cut_at, cut_back, cut_only, named, named_is_exact, named_avoids, beside}

abbrev pub with_rest : {A : Type 0} → Option A → List ℕ → Option (A × List ℕ)
with_rest value rest = option_map (λ a. (a, rest)) value

-- the value of the field in front, and the text behind it
abbrev pub in_front : {A : Type 0} → ℕ → Spelling A → List ℕ → Option (A × List ℕ)
in_front at s text = option_and_then (λ parts. with_rest (s.value parts.0) parts.1) (cut_at at text)

-- a value, and that of the text behind it
abbrev pub then_second : {A B : Type 0} → (List ℕ → Option B) → A × List ℕ → Option (A × B)
then_second second p = option_map (λ b. (p.0, b)) (second p.1)

-- a value behind each of some names, and the text behind all of them
abbrev pub each_in_front : {A : Type 0} → ℕ → Spelling A → List (List ℕ) → List ℕ → Option (List A × List ℕ)
each_in_front at s [] text = Some ([], text)
each_in_front at s (name ∷ names) text =
    option_and_then (λ first. option_map (λ more. (first.0 ∷ more.0, more.1)) (each_in_front at s names first.1)) (in_front at (named s name) text)

-- each name with its value, and the byte behind them
abbrev pub named_texts : {A : Type 0} → ℕ → (A → List ℕ) → List (List ℕ) → List A → List ℕ
named_texts at text [] xs = []
named_texts at text (name ∷ names) [] = []
named_texts at text (name ∷ names) (x ∷ xs) = (name ++ text x) ++ at ∷ named_texts at text names xs

-- a field of each name, each with the byte behind it, and then another field
abbrev pub each_beside : {A B : Type 0} → ℕ → List (List ℕ) → Spelling A → Spelling B → Spelling (List A × B)
each_beside at names s t = record {
  text = λ p. named_texts at s.text names p.0 ++ t.text p.1;
  value = λ text. option_and_then (then_second t.value) (each_in_front at s names text);
  Form = λ p. (length p.0 ≡ length names) × AllByRecursion s.Form p.0 × t.Form p.1;
}

-- LAWS

second_first : {A B : Type 0} (a : Option A) (rest : List ℕ) (second : List ℕ → Option B)
    → option_and_then {U = A × B} (λ x. option_map (λ b. (x, b)) (second rest)) a ≡ option_and_then (then_second second) (with_rest a rest)
second_first None rest second = refl
second_first (Some a) rest second = refl

beside_cut : {A B : Type 0} (s : Spelling A) (t : Spelling B) (parts : Option (List ℕ × List ℕ))
    → option_and_then {U = A × B} (λ p. option_and_then {U = A × B} (λ a. option_map (λ b. (a, b)) (t.value p.1)) (s.value p.0)) parts
    ≡ option_and_then (then_second t.value) (option_and_then (λ p. with_rest (s.value p.0) p.1) parts)
beside_cut s t None = refl
beside_cut s t (Some p) = second_first (s.value p.0) p.1 t.value

-- a field beside another is the first in front, and the second of the text behind it
pub beside_in_front : {A B : Type 0} (at : ℕ) (s : Spelling A) (t : Spelling B) (text : List ℕ)
    → (beside at s t).value text ≡ option_and_then (then_second t.value) (in_front at s text)
beside_in_front at s t text = beside_cut s t (cut_at at text)

pub in_front_back : {A : Type 0} (at : ℕ) (s : Spelling A) → IsExact s → Avoids s at → (a : A) (rest : List ℕ) → s.Form a
    → in_front at s (s.text a ++ at ∷ rest) ≡ Some (a, rest)
in_front_back at s h apart a rest form = rw (cut_back at (s.text a) rest (apart a form), h.back a form) refl

pub in_front_only : {A : Type 0} (at : ℕ) (s : Spelling A) → IsExact s → (text : List ℕ) (p : A × List ℕ) → in_front at s text ≡ Some p
    → s.Form p.0 × (s.text p.0 ++ at ∷ p.1 ≡ text)
in_front_only at s h text p e = then_only _ (cut_at at text) p e (λ parts is rest. map_only _ (s.value parts.0) p rest (λ a found same.
    let one = h.only parts.0 a found in let cuts = cut_only at text parts is in
    subst (λ q. s.Form q.0 × (s.text q.0 ++ at ∷ q.1 ≡ text)) same (one.0, ap (λ (t : List ℕ). t ++ at ∷ parts.1) one.1 ∙ cuts.0)))

each_back : {A : Type 0} (at : ℕ) (s : Spelling A) → IsExact s → Avoids s at → (names : List (List ℕ))
    → AllByRecursion (λ name. has_byte at name ≡ false) names
    → (xs : List A) (rest : List ℕ) → length xs ≡ length names → AllByRecursion s.Form xs
    → each_in_front at s names (named_texts at s.text names xs ++ rest) ≡ Some (xs, rest)
each_back at s h apart [] none [] rest long forms = refl
each_back at s h apart [] none (x ∷ xs) rest long forms = absurd (omega (arith, long))
each_back at s h apart (name ∷ names) none [] rest long forms = absurd (omega (arith, long))
each_back at s h apart (name ∷ names) none (x ∷ xs) rest long forms =
    let more = named_texts at s.text names xs in
    let whole : ((name ++ s.text x) ++ at ∷ more) ++ rest ≡ (name ++ s.text x) ++ at ∷ (more ++ rest) = append_assoc (name ++ s.text x) (at ∷ more) rest in
    rw (
      whole,
      in_front_back at (named s name) (named_is_exact s name h) (named_avoids s name at none.0 apart) x (more ++ rest) forms.0,
      each_back at s h apart names none.1 xs rest (omega (arith, long)) forms.1,
    ) refl

-- what is read of named fields
abbrev AreInFront : {A : Type 0} → ℕ → Spelling A → List (List ℕ) → List ℕ → List A × List ℕ → Type 0
AreInFront at s names text p = (length p.0 ≡ length names) × AllByRecursion s.Form p.0 × (named_texts at s.text names p.0 ++ p.1 ≡ text)

each_only : {A : Type 0} (at : ℕ) (s : Spelling A) → IsExact s → (names : List (List ℕ)) (text : List ℕ) (p : List A × List ℕ)
    → each_in_front at s names text ≡ Some p → AreInFront at s names text p
each_only at s h [] text p e = subst (AreInFront at s [] text) (same_Some ([], text) p e) (refl, tt, refl)
each_only at s h (name ∷ names) text p e = then_only _ (in_front at (named s name) text) p e
    (λ first is rest. map_only _ (each_in_front at s names first.1) p rest (λ more found same.
    let one = in_front_only at (named s name) (named_is_exact s name h) text first is in
    let others = each_only at s h names first.1 more found in
    subst (AreInFront at s (name ∷ names) text) same (
      ap suc others.0,
      (one.0, others.1),
      append_assoc (name ++ s.text first.0) (at ∷ named_texts at s.text names more.0) more.1
          ∙ ap (λ (t : List ℕ). (name ++ s.text first.0) ++ at ∷ t) others.2 ∙ one.1,
    )))

pub each_beside_is_exact : {A B : Type 0} (at : ℕ) (names : List (List ℕ)) (s : Spelling A) (t : Spelling B) → IsExact s
    → IsExact t → Avoids s at
    → AllByRecursion (λ name. has_byte at name ≡ false) names → IsExact (each_beside at names s t)
each_beside_is_exact at names s t h k apart none = record {
  back = λ p form. rw (each_back at s h apart names none p.0 (t.text p.1) form.0 form.1, k.back p.1 form.2) refl;
  only = λ text p e. then_only _ (each_in_front at s names text) p e (λ front is rest. map_only _ (t.value front.1) p rest (λ b found same.
      let one = each_only at s h names text front is in let last = k.only front.1 b found in
      subst (λ q. ((length q.0 ≡ length names) × AllByRecursion s.Form q.0 × t.Form q.1) × (named_texts at s.text names q.0 ++ t.text q.1 ≡ text)) same
      ((one.0, one.1, last.0), ap (λ (rest : List ℕ). named_texts at s.text names front.0 ++ rest) last.1 ∙ one.2)));
}

texts_avoid : {A : Type 0} (between at : ℕ) (s : Spelling A) → (between == at) ≡ false → Avoids s at → (names : List (List ℕ))
    → AllByRecursion (λ name. has_byte at name ≡ false) names → (xs : List A) → AllByRecursion s.Form xs
    → has_byte at (named_texts between s.text names xs) ≡ false
texts_avoid between at s other h [] none xs forms = refl
texts_avoid between at s other h (name ∷ names) none [] forms = refl
texts_avoid between at s other h (name ∷ names) none (x ∷ xs) forms =
    has_byte-between at between (name ++ s.text x) (named_texts between s.text names xs) other
    (has_byte-both at name (s.text x) none.0 (h x forms.0)) (texts_avoid between at s other h names none.1 xs forms.1)

pub each_beside_avoids : {A B : Type 0} (between at : ℕ) (names : List (List ℕ)) (s : Spelling A) (t : Spelling B) → (between == at) ≡ false
    → AllByRecursion (λ name. has_byte at name ≡ false) names → Avoids s at → Avoids t at → Avoids (each_beside between names s t) at
each_beside_avoids between at names s t other none h k = λ p form.
    has_byte-both at (named_texts between s.text names p.0) (t.text p.1) (texts_avoid between at s other h names none p.0 form.1) (k p.1 form.2)
