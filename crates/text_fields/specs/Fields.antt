-- Kinds of fields, made of others: each has a law that it is exact where its parts are, and one on the bytes that it avoids.
use Rattle.std.specs.Prelude.{◌≡◌, ◌⊎◌, ℕ, zero, suc, ◌==◌, ◌<◌, ◌≤◌, ◌||◌, ◌&&◌, if◌then◌else◌, Bool, true, false, Option, None, Some, option_map, option_and_then, List, [], ◌∷◌, ◌++◌, length, map}
use Rattle.std.specs.List.{find, list_all}
use Rattle.std.specs.Str.{bytes_eq}
use Rattle.std.proofs.Common.{refl, sym, ap, ap₂, ◌∙◌, subst, inl, inr, arith}
use Rattle.std.proofs.lemmas.Bool.{cases_Bool, and_parts, or_cases, false≢true, eq-eqb, eqb-true, eqb-false, ne_eqb}
use Rattle.std.proofs.lemmas.Option.{none-some, same_Some}
use Rattle.std.proofs.lemmas.Slice.Eq.{bytes_eq-Decides}
use Rattle.text_fields.specs.Spelling.{Spelling, IsExact, Avoids, has_byte, has_byte-both, has_byte-between, then_only, map_only, test_only}

-- THE KINDS

-- the text behind a name, if it begins with the name
abbrev pub behind : List ℕ → List ℕ → Option (List ℕ)
behind [] text = Some text
behind (n ∷ name) [] = None
behind (n ∷ name) (b ∷ text) = if b == n then behind name text else None

-- a name, and then the field
abbrev pub named : {A : Type 0} → Spelling A → List ℕ → Spelling A
named s name = record { text = λ a. name ++ s.text a; value = λ text. option_and_then s.value (behind name text); Form = s.Form }

-- the values that pass a test
abbrev pub passing : {A : Type 0} → Spelling A → (A → Bool) → Spelling A
passing s test = record {
  text = s.text;
  value = λ text. option_and_then (λ a. if test a then Some a else None) (s.value text);
  Form = λ a. s.Form a × (test a ≡ true);
}

-- the field, or a mark for none
abbrev pub marked_text : {A : Type 0} → (A → List ℕ) → List ℕ → Option A → List ℕ
marked_text text mark None = mark
marked_text text mark (Some a) = text a

abbrev pub IfForm : {A : Type 0} → (A → Type 0) → Option A → Type 0
IfForm Form None = Unit {0}
IfForm Form (Some a) = Form a

abbrev pub or_mark : {A : Type 0} → Spelling A → List ℕ → Spelling (Option A)
or_mark s mark = record {
  text = marked_text s.text mark;
  value = λ text. if bytes_eq text mark then Some None else option_map Some (s.value text);
  Form = IfForm s.Form;
}

-- what stands in front of the first such byte and behind it, if there is one
abbrev pub cut_at : ℕ → List ℕ → Option (List ℕ × List ℕ)
cut_at at [] = None
cut_at at (b ∷ text) = if b == at then Some ([], text) else option_map (λ parts. (b ∷ parts.0, parts.1)) (cut_at at text)

-- a field, a byte, and a field that may depend on the value of the first
abbrev pub beside_by : {A B : Type 0} → ℕ → Spelling A → (A → Spelling B) → Spelling (A × B)
beside_by at s t = record {
  text = λ p. s.text p.0 ++ at ∷ (t p.0).text p.1;
  value = λ text. option_and_then (λ parts. option_and_then (λ a. option_map (λ b. (a, b)) ((t a).value parts.1)) (s.value parts.0)) (cut_at at text);
  Form = λ p. s.Form p.0 × (t p.0).Form p.1;
}

-- two fields with a byte between them
abbrev pub beside : {A B : Type 0} → ℕ → Spelling A → Spelling B → Spelling (A × B)
beside at s t = beside_by at s (λ a. t)

-- a field, and perhaps a byte and another field
abbrev pub tailed_text : {A B : Type 0} → ℕ → (A → List ℕ) → (B → List ℕ) → A → Option B → List ℕ
tailed_text at first second a None = first a
tailed_text at first second a (Some b) = first a ++ at ∷ second b

abbrev pub tailed_value : {A B : Type 0} → (List ℕ → Option A) → (List ℕ → Option B) → (text : List ℕ)
    → Option (List ℕ × List ℕ) → Option (A × Option B)
tailed_value first second text None = option_map (λ a. (a, None)) (first text)
tailed_value first second text (Some parts) = option_and_then (λ a. option_map (λ b. (a, Some b)) (second parts.1)) (first parts.0)

abbrev pub with_tail : {A B : Type 0} → ℕ → Spelling A → Spelling B → Spelling (A × Option B)
with_tail at s t = record {
  text = λ p. tailed_text at s.text t.text p.0 p.1;
  value = λ text. tailed_value s.value t.value text (cut_at at text);
  Form = λ p. s.Form p.0 × IfForm t.Form p.1;
}

-- one of two fields
abbrev pub one_text : {A B : Type 0} → (A → List ℕ) → (B → List ℕ) → A ⊎ B → List ℕ
one_text first second (inl a) = first a
one_text first second (inr b) = second b

abbrev pub OneForm : {A B : Type 0} → (A → Type 0) → (B → Type 0) → A ⊎ B → Type 0
OneForm First Second (inl a) = First a
OneForm First Second (inr b) = Second b

-- which one is told by whether the text has a byte
abbrev pub either : {A B : Type 0} → ℕ → Spelling A → Spelling B → Spelling (A ⊎ B)
either at s t = record {
  text = one_text s.text t.text;
  value = λ text. if has_byte at text then option_map inl (s.value text) else option_map inr (t.value text);
  Form = OneForm s.Form t.Form;
}

-- which one is told by a name in front
abbrev pub front_value : {A B : Type 0} → (List ℕ → Option A) → (List ℕ → Option B) → Option (List ℕ) → Option (List ℕ) → Option (A ⊎ B)
front_value first second (Some rest) other = option_map inl (first rest)
front_value first second None other = option_map inr (option_and_then second other)

abbrev pub either_front : {A B : Type 0} → List ℕ → Spelling A → List ℕ → Spelling B → Spelling (A ⊎ B)
either_front name s other t = record {
  text = one_text (λ a. name ++ s.text a) (λ b. other ++ t.text b);
  value = λ text. front_value s.value t.value (behind name text) (behind other text);
  Form = OneForm s.Form t.Form;
}

-- a field for values that others stand for
abbrev pub told_by : {A B : Type 0} → Spelling A → (to : A → B) → (from : B → A) → Spelling B
told_by s to from = record {
  text = λ b. s.text (from b);
  value = λ text. option_map to (s.value text);
  Form = λ b. s.Form (from b) × (to (from b) ≡ b);
}

-- its form said in other words, and its text
abbrev pub restated : {A : Type 0} → Spelling A → (A → Type 0) → Spelling A
restated s Form = record { text = s.text; value = s.value; Form = Form }

abbrev pub respelled : {A : Type 0} → Spelling A → (A → List ℕ) → Spelling A
respelled s text = record { text = text; value = s.value; Form = s.Form }

-- one of some values, each by its text
abbrev pub IsOneOf : {A : Type 0} → List A → A → Type 0
IsOneOf [] a = ⊥
IsOneOf (x ∷ xs) a = (x ≡ a) ⊎ IsOneOf xs a

abbrev pub one_of : {A : Type 0} → (A → List ℕ) → List A → Spelling A
one_of text values = record { text = text; value = λ t. find (λ a. bytes_eq (text a) t) values; Form = IsOneOf values }

abbrev pub differ : List ℕ → List ℕ → Bool
differ a b = if bytes_eq a b then false else true

-- no two of some texts are the same
abbrev pub are_apart : List (List ℕ) → Bool
are_apart [] = true
are_apart (text ∷ texts) = list_all (λ other. differ text other) texts && are_apart texts

-- a number by its name in a table
abbrev pub name_in : List (ℕ × List ℕ) → ℕ → List ℕ
name_in [] n = []
name_in (row ∷ rows) n = if row.0 == n then row.1 else name_in rows n

abbrev pub number_in : List (ℕ × List ℕ) → List ℕ → Option ℕ
number_in [] text = None
number_in (row ∷ rows) text = if bytes_eq row.1 text then Some row.0 else number_in rows text

abbrev pub is_named : List (ℕ × List ℕ) → ℕ → Bool
is_named [] n = false
is_named (row ∷ rows) n = (row.0 == n) || is_named rows n

abbrev pub one_named : List (ℕ × List ℕ) → Spelling ℕ
one_named rows = record { text = name_in rows; value = number_in rows; Form = λ n. is_named rows n ≡ true }

-- no two rows of a table have one number, or one name
abbrev pub are_rows_apart : List (ℕ × List ℕ) → Bool
are_rows_apart [] = true
are_rows_apart (row ∷ rows) = list_all (λ other. if other.0 == row.0 then false else differ row.1 other.1) rows && are_rows_apart rows

-- neither of two names begins the other
abbrev pub are_told_apart : List ℕ → List ℕ → Bool
are_told_apart [] other = false
are_told_apart (n ∷ name) [] = false
are_told_apart (n ∷ name) (m ∷ other) = if m == n then are_told_apart name other else true

-- LAWS

pub same_bytes : (a b : List ℕ) → bytes_eq a b ≡ true → a ≡ b
same_bytes a b e = (bytes_eq-Decides a b).0 e

pub bytes_same : (a b : List ℕ) → a ≡ b → bytes_eq a b ≡ true
bytes_same a b e = (bytes_eq-Decides a b).1 e

pub other_bytes : (a b : List ℕ) → (a ≡ b → ⊥) → bytes_eq a b ≡ false
other_bytes a b other = elim (cases_Bool (bytes_eq a b)) [
  | inl same ↦ absurd (other (same_bytes a b same))
  | inr none ↦ none
]

-- NAMES

pub behind_back : (name rest : List ℕ) → behind name (name ++ rest) ≡ Some rest
behind_back [] rest = refl
behind_back (n ∷ name) rest = rw (eq-eqb n n refl) (behind_back name rest)

pub behind_only : (name text rest : List ℕ) → behind name text ≡ Some rest → name ++ rest ≡ text
behind_only [] text rest e = sym (same_Some text rest e)
behind_only (n ∷ name) [] rest e = absurd (none-some rest e)
behind_only (n ∷ name) (b ∷ text) rest e = elim (cases_Bool (b == n)) [
  | inl same ↦ ap₂ (λ (c : ℕ) (t : List ℕ). c ∷ t) (sym (eqb-true b n same)) (behind_only name text rest (rw same at e))
  | inr other ↦ absurd (none-some rest (rw other at e))
]

pub named_is_exact : {A : Type 0} (s : Spelling A) (name : List ℕ) → IsExact s → IsExact (named s name)
named_is_exact s name h = record {
  back = λ a form. rw (behind_back name (s.text a)) (h.back a form);
  only = λ text a e. then_only _ (behind name text) a e (λ rest is found.
      let one = h.only rest a found in (one.0, ap (λ (t : List ℕ). name ++ t) one.1 ∙ behind_only name text rest is));
}

pub named_avoids : {A : Type 0} (s : Spelling A) (name : List ℕ) (at : ℕ) → has_byte at name ≡ false → Avoids s at
    → Avoids (named s name) at
named_avoids s name at none h = λ a form. has_byte-both at name (s.text a) none (h a form)

-- TESTS

pub passing_is_exact : {A : Type 0} (s : Spelling A) (test : A → Bool) → IsExact s → IsExact (passing s test)
passing_is_exact s test h = record {
  back = λ a form. rw (h.back a form.0, form.1) refl;
  only = λ text a e. then_only _ (s.value text) a e (λ b found more. test_only (test b) b a more (λ passes same.
      let one = h.only text b found in subst (λ q. (s.Form q × (test q ≡ true)) × (s.text q ≡ text)) same ((one.0, passes), one.1)));
}

pub passing_avoids : {A : Type 0} (s : Spelling A) (test : A → Bool) (at : ℕ) → Avoids s at → Avoids (passing s test) at
passing_avoids s test at h = λ a form. h a form.0

-- MARKS

marked_back : {A : Type 0} (s : Spelling A) (mark : List ℕ) → IsExact s → ((a : A) → s.Form a → bytes_eq (s.text a) mark ≡ false)
    → (a : Option A) → IfForm s.Form a → (or_mark s mark).value (marked_text s.text mark a) ≡ Some a
marked_back s mark h other None form = rw (bytes_same mark mark refl) refl
marked_back s mark h other (Some a) form = rw (other a form, h.back a form) refl

marked_only : {A : Type 0} (s : Spelling A) (mark : List ℕ) → IsExact s
    → (text : List ℕ) (a : Option A) (is_mark : Bool) → bytes_eq text mark ≡ is_mark
    → (if is_mark then Some None else option_map Some (s.value text)) ≡ Some a → IfForm s.Form a × (marked_text s.text mark a ≡ text)
marked_only s mark h text a true is e = subst (λ q. IfForm s.Form q × (marked_text s.text mark q ≡ text)) (same_Some None a e)
    (tt, sym (same_bytes text mark is))
marked_only s mark h text a false is e = map_only Some (s.value text) a e
    (λ b found same. subst (λ q. IfForm s.Form q × (marked_text s.text mark q ≡ text)) same (h.only text b found))

-- no text is the mark
pub or_mark_is_exact : {A : Type 0} (s : Spelling A) (mark : List ℕ) → ((a : A) → s.Form a → bytes_eq (s.text a) mark ≡ false) → IsExact s
    → IsExact (or_mark s mark)
or_mark_is_exact s mark other h = record {
  back = marked_back s mark h other;
  only = λ text a e. marked_only s mark h text a (bytes_eq text mark) refl e;
}

-- a longer text is no mark of one byte
pub longer_differs : (text : List ℕ) (mark : ℕ) → 2 ≤ length text → bytes_eq text (mark ∷ []) ≡ false
longer_differs text mark long = other_bytes text (mark ∷ []) (λ e. absurd (omega (arith, ap length e)))

-- nor is a text with a byte that the mark hasn't, or without one that it has
pub byte_differs : (at : ℕ) (text mark : List ℕ) (in_mark : Bool) → has_byte at mark ≡ in_mark
    → (has_byte at text ≡ in_mark → ⊥) → bytes_eq text mark ≡ false
byte_differs at text mark in_mark is other = other_bytes text mark (λ e. other (ap (has_byte at) e ∙ is))

marked_avoids : {A : Type 0} (s : Spelling A) (mark : List ℕ) (at : ℕ) → has_byte at mark ≡ false → Avoids s at
    → (a : Option A) → IfForm s.Form a
    → has_byte at (marked_text s.text mark a) ≡ false
marked_avoids s mark at none h None form = none
marked_avoids s mark at none h (Some a) form = h a form

pub or_mark_avoids : {A : Type 0} (s : Spelling A) (mark : List ℕ) (at : ℕ) → has_byte at mark ≡ false → Avoids s at
    → Avoids (or_mark s mark) at
or_mark_avoids s mark at none h = marked_avoids s mark at none h

-- CUTS

pub cut_back : (at : ℕ) (front rest : List ℕ) → has_byte at front ≡ false → cut_at at (front ++ at ∷ rest) ≡ Some (front, rest)
cut_back at [] rest none = rw (eq-eqb at at refl) refl
cut_back at (b ∷ front) rest none = elim (cases_Bool (b == at)) [
  | inl same ↦ absurd (false≢true (sym none ∙ rw same refl))
  | inr other ↦ rw (other, cut_back at front rest (rw other at none)) refl
]

pub cut_none : (at : ℕ) (text : List ℕ) → has_byte at text ≡ false → cut_at at text ≡ None
cut_none at [] none = refl
cut_none at (b ∷ text) none = elim (cases_Bool (b == at)) [
  | inl same ↦ absurd (false≢true (sym none ∙ rw same refl))
  | inr other ↦ rw (other, cut_none at text (rw other at none)) refl
]

pub cut_only : (at : ℕ) (text : List ℕ) (parts : List ℕ × List ℕ) → cut_at at text ≡ Some parts
    → (parts.0 ++ at ∷ parts.1 ≡ text) × (has_byte at parts.0 ≡ false)
cut_only at [] parts e = absurd (none-some parts e)
cut_only at (b ∷ text) parts e = elim (cases_Bool (b == at)) [
  | inl same ↦ subst (λ (p : List ℕ × List ℕ). (p.0 ++ at ∷ p.1 ≡ b ∷ text) × (has_byte at p.0 ≡ false)) (same_Some ([], text) parts (rw same at e))
      (ap (λ c. c ∷ text) (sym (eqb-true b at same)), refl)
  | inr other ↦ map_only _ (cut_at at text) parts (rw other at e) (λ before found is.
      let one = cut_only at text before found in
      subst (λ (p : List ℕ × List ℕ). (p.0 ++ at ∷ p.1 ≡ b ∷ text) × (has_byte at p.0 ≡ false)) is (ap (λ (t : List ℕ). b ∷ t) one.0, rw other one.1))
]

pub beside_by_is_exact : {A B : Type 0} (at : ℕ) (s : Spelling A) (t : A → Spelling B) → IsExact s
    → ((a : A) → s.Form a → IsExact (t a)) → Avoids s at
    → IsExact (beside_by at s t)
beside_by_is_exact at s t h k apart = record {
  back = λ p form. rw (cut_back at (s.text p.0) ((t p.0).text p.1) (apart p.0 form.0), h.back p.0 form.0, (k p.0 form.0).back p.1 form.1) refl;
  only = λ text p e. then_only _ (cut_at at text) p e
      (λ parts is rest. then_only _ (s.value parts.0) p rest (λ a first more. map_only _ ((t a).value parts.1) p more (λ b second same.
      let one = h.only parts.0 a first in let two = (k a one.0).only parts.1 b second in let cuts = cut_only at text parts is in
      subst (λ q. (s.Form q.0 × (t q.0).Form q.1) × (s.text q.0 ++ at ∷ (t q.0).text q.1 ≡ text)) same
      ((one.0, two.0), ap₂ (λ x y. x ++ at ∷ y) one.1 two.1 ∙ cuts.0))));
}

pub beside_is_exact : {A B : Type 0} (at : ℕ) (s : Spelling A) (t : Spelling B) → IsExact s → IsExact t → Avoids s at
    → IsExact (beside at s t)
beside_is_exact at s t h k apart = beside_by_is_exact at s (λ a. t) h (λ a form. k) apart

pub beside_by_avoids : {A B : Type 0} (between at : ℕ) (s : Spelling A) (t : A → Spelling B) → (between == at) ≡ false → Avoids s at
    → ((a : A) → s.Form a → Avoids (t a) at) → Avoids (beside_by between s t) at
beside_by_avoids between at s t other h k =
    λ p form. has_byte-between at between (s.text p.0) ((t p.0).text p.1) other (h p.0 form.0) (k p.0 form.0 p.1 form.1)

pub beside_avoids : {A B : Type 0} (between at : ℕ) (s : Spelling A) (t : Spelling B) → (between == at) ≡ false → Avoids s at → Avoids t at
    → Avoids (beside between s t) at
beside_avoids between at s t other h k = beside_by_avoids between at s (λ a. t) other h (λ a form. k)

-- TAILS

tailed_back : {A B : Type 0} (at : ℕ) (s : Spelling A) (t : Spelling B) → IsExact s → IsExact t → Avoids s at
    → (a : A) (b : Option B) → s.Form a
    → IfForm t.Form b
    → (with_tail at s t).value (tailed_text at s.text t.text a b) ≡ Some (a, b)
tailed_back at s t h k apart a None form more = rw (cut_none at (s.text a) (apart a form), h.back a form) refl
tailed_back at s t h k apart a (Some b) form more = rw (cut_back at (s.text a) (t.text b) (apart a form), h.back a form, k.back b more) refl

tailed_only : {A B : Type 0} (at : ℕ) (s : Spelling A) (t : Spelling B) → IsExact s → IsExact t
    → (text : List ℕ) (p : A × Option B) (parts : Option (List ℕ × List ℕ)) → cut_at at text ≡ parts
    → tailed_value s.value t.value text parts ≡ Some p → (s.Form p.0 × IfForm t.Form p.1) × (tailed_text at s.text t.text p.0 p.1 ≡ text)
tailed_only at s t h k text p None is e = map_only _ (s.value text) p e (λ a found same.
    let one = h.only text a found in subst (λ q. (s.Form q.0 × IfForm t.Form q.1) × (tailed_text at s.text t.text q.0 q.1 ≡ text)) same ((one.0, tt), one.1))
tailed_only at s t h k text p (Some parts) is e = then_only _ (s.value parts.0) p e (λ a first more. map_only _ (t.value parts.1) p more (λ b second same.
    let one = h.only parts.0 a first in let two = k.only parts.1 b second in let cuts = cut_only at text parts is in
    subst (λ q. (s.Form q.0 × IfForm t.Form q.1) × (tailed_text at s.text t.text q.0 q.1 ≡ text)) same
    ((one.0, two.0), ap₂ (λ x y. x ++ at ∷ y) one.1 two.1 ∙ cuts.0)))

pub with_tail_is_exact : {A B : Type 0} (at : ℕ) (s : Spelling A) (t : Spelling B) → IsExact s → IsExact t → Avoids s at
    → IsExact (with_tail at s t)
with_tail_is_exact at s t h k apart = record {
  back = λ p form. tailed_back at s t h k apart p.0 p.1 form.0 form.1;
  only = λ text p e. tailed_only at s t h k text p (cut_at at text) refl e;
}

tailed_avoids : {A B : Type 0} (between at : ℕ) (s : Spelling A) (t : Spelling B) → (between == at) ≡ false → Avoids s at → Avoids t at
    → (a : A) (b : Option B) → s.Form a → IfForm t.Form b
    → has_byte at (tailed_text between s.text t.text a b) ≡ false
tailed_avoids between at s t other h k a None form more = h a form
tailed_avoids between at s t other h k a (Some b) form more = has_byte-between at between (s.text a) (t.text b) other (h a form) (k b more)

pub with_tail_avoids : {A B : Type 0} (between at : ℕ) (s : Spelling A) (t : Spelling B) → (between == at) ≡ false
    → Avoids s at → Avoids t at
    → Avoids (with_tail between s t) at
with_tail_avoids between at s t other h k = λ p form. tailed_avoids between at s t other h k p.0 p.1 form.0 form.1

-- ONE OF TWO

either_back : {A B : Type 0} (at : ℕ) (s : Spelling A) (t : Spelling B) → IsExact s → IsExact t
    → ((a : A) → s.Form a → has_byte at (s.text a) ≡ true)
    → Avoids t at
    → (c : A ⊎ B) → OneForm s.Form t.Form c → (either at s t).value (one_text s.text t.text c) ≡ Some c
either_back at s t h k has apart (inl a) form = rw (has a form, h.back a form) refl
either_back at s t h k has apart (inr b) form = rw (apart b form, k.back b form) refl

either_only : {A B : Type 0} (s : Spelling A) (t : Spelling B) → IsExact s → IsExact t → (text : List ℕ) (c : A ⊎ B) (has : Bool)
    → (if has then option_map inl (s.value text) else option_map inr (t.value text)) ≡ Some c
    → OneForm s.Form t.Form c × (one_text s.text t.text c ≡ text)
either_only s t h k text c true e = map_only inl (s.value text) c e
    (λ a found same. subst (λ q. OneForm s.Form t.Form q × (one_text s.text t.text q ≡ text)) same (h.only text a found))
either_only s t h k text c false e = map_only inr (t.value text) c e
    (λ b found same. subst (λ q. OneForm s.Form t.Form q × (one_text s.text t.text q ≡ text)) same (k.only text b found))

pub either_is_exact : {A B : Type 0} (at : ℕ) (s : Spelling A) (t : Spelling B) → IsExact s → IsExact t
    → ((a : A) → s.Form a → has_byte at (s.text a) ≡ true)
    → Avoids t at → IsExact (either at s t)
either_is_exact at s t h k has apart = record {
  back = either_back at s t h k has apart;
  only = λ text c e. either_only s t h k text c (has_byte at text) e;
}

one_avoids : {A B : Type 0} (at : ℕ) (s : Spelling A) (t : Spelling B) → Avoids s at → Avoids t at → (c : A ⊎ B) → OneForm s.Form t.Form c
    → has_byte at (one_text s.text t.text c) ≡ false
one_avoids at s t h k (inl a) form = h a form
one_avoids at s t h k (inr b) form = k b form

pub either_avoids : {A B : Type 0} (between at : ℕ) (s : Spelling A) (t : Spelling B) → Avoids s at → Avoids t at
    → Avoids (either between s t) at
either_avoids between at s t h k = one_avoids at s t h k

-- the first name doesn't begin what the second one begins
behind_other : (name other rest : List ℕ) → are_told_apart name other ≡ true → behind name (other ++ rest) ≡ None
behind_other [] other rest e = absurd (false≢true e)
behind_other (n ∷ name) [] rest e = absurd (false≢true e)
behind_other (n ∷ name) (m ∷ other) rest e = elim (cases_Bool (m == n)) [
  | inl same ↦ rw same (behind_other name other rest (rw same at e))
  | inr apart ↦ rw apart refl
]

front_back : {A B : Type 0} (name : List ℕ) (s : Spelling A) (other : List ℕ) (t : Spelling B) → IsExact s → IsExact t
    → are_told_apart name other ≡ true
    → (c : A ⊎ B) → OneForm s.Form t.Form c → (either_front name s other t).value ((either_front name s other t).text c) ≡ Some c
front_back name s other t h k apart (inl a) form = rw (behind_back name (s.text a), h.back a form) refl
front_back name s other t h k apart (inr b) form =
    rw (behind_other name other (t.text b) apart, behind_back other (t.text b), k.back b form) refl

front_only : {A B : Type 0} (name : List ℕ) (s : Spelling A) (other : List ℕ) (t : Spelling B) → IsExact s → IsExact t
    → (text : List ℕ) (c : A ⊎ B) (first : Option (List ℕ)) → behind name text ≡ first
    → front_value s.value t.value first (behind other text) ≡ Some c
    → OneForm s.Form t.Form c × ((either_front name s other t).text c ≡ text)
front_only name s other t h k text c (Some rest) is e = map_only inl (s.value rest) c e (λ a found same.
    let one = h.only rest a found in
    subst (λ q. OneForm s.Form t.Form q × ((either_front name s other t).text q ≡ text)) same
    (one.0, ap (λ (x : List ℕ). name ++ x) one.1 ∙ behind_only name text rest is))
front_only name s other t h k text c None is e = map_only inr (option_and_then t.value (behind other text)) c e
    (λ b found same. then_only t.value (behind other text) b found (λ rest is_rest read.
    let one = k.only rest b read in
    subst (λ q. OneForm s.Form t.Form q × ((either_front name s other t).text q ≡ text)) same
    (one.0, ap (λ (x : List ℕ). other ++ x) one.1 ∙ behind_only other text rest is_rest)))

pub either_front_is_exact : {A B : Type 0} (name : List ℕ) (s : Spelling A) (other : List ℕ) (t : Spelling B) → IsExact s → IsExact t
    → are_told_apart name other ≡ true → IsExact (either_front name s other t)
either_front_is_exact name s other t h k apart = record {
  back = front_back name s other t h k apart;
  only = λ text c e. front_only name s other t h k text c (behind name text) refl e;
}

pub either_front_avoids : {A B : Type 0} (name : List ℕ) (s : Spelling A) (other : List ℕ) (t : Spelling B) (at : ℕ)
    → has_byte at name ≡ false
    → has_byte at other ≡ false → Avoids s at → Avoids t at
    → Avoids (either_front name s other t) at
either_front_avoids name s other t at none nor h k = one_avoids at (named s name) (named t other) (named_avoids s name at none h)
    (named_avoids t other at nor k)

-- OTHER WORDS

pub told_by_is_exact : {A B : Type 0} (s : Spelling A) (to : A → B) (from : B → A) → IsExact s → ((a : A) → s.Form a → from (to a) ≡ a)
    → IsExact (told_by s to from)
told_by_is_exact s to from h there = record {
  back = λ b form. rw (h.back (from b) form.0, form.1) refl;
  only = λ text b e. map_only to (s.value text) b e (λ a found same.
      let one = h.only text a found in let again = there a one.0 in
      subst (λ q. (s.Form (from q) × (to (from q) ≡ q)) × (s.text (from q) ≡ text)) same
      ((subst s.Form (sym again) one.0, ap to again), ap s.text again ∙ one.1));
}

pub told_by_avoids : {A B : Type 0} (s : Spelling A) (to : A → B) (from : B → A) (at : ℕ) → Avoids s at → Avoids (told_by s to from) at
told_by_avoids s to from at h = λ b form. h (from b) form.0

pub restated_is_exact : {A : Type 0} (s : Spelling A) (Form : A → Type 0) → IsExact s → ((a : A) → Form a → s.Form a)
    → ((a : A) → s.Form a → Form a)
    → IsExact (restated s Form)
restated_is_exact s Form h narrow wide = record {
  back = λ a form. h.back a (narrow a form);
  only = λ text a e. let one = h.only text a e in (wide a one.0, one.1);
}

pub restated_avoids : {A : Type 0} (s : Spelling A) (Form : A → Type 0) (at : ℕ) → ((a : A) → Form a → s.Form a)
    → Avoids s at → Avoids (restated s Form) at
restated_avoids s Form at narrow h = λ a form. h a (narrow a form)

pub respelled_is_exact : {A : Type 0} (s : Spelling A) (text : A → List ℕ) → IsExact s
    → ((a : A) → s.Form a → text a ≡ s.text a) → IsExact (respelled s text)
respelled_is_exact s text h same = record {
  back = λ a form. rw (same a form) (h.back a form);
  only = λ t a e. let one = h.only t a e in (one.0, same a one.0 ∙ one.1);
}

pub respelled_avoids : {A : Type 0} (s : Spelling A) (text : A → List ℕ) (at : ℕ) → ((a : A) → s.Form a → text a ≡ s.text a) → Avoids s at
    → Avoids (respelled s text) at
respelled_avoids s text at same h = λ a form. rw (same a form) (h a form)

-- TABLES

differ_only : (a b : List ℕ) → differ a b ≡ true → bytes_eq a b ≡ false
differ_only a b e = elim (cases_Bool (bytes_eq a b)) [
  | inl same ↦ absurd (false≢true (rw same at e))
  | inr other ↦ other
]

-- a value whose text is that of the first one, which no later one has, is the first one
named_apart : {A : Type 0} (text : A → List ℕ) (x a : A) (xs : List A)
    → list_all (λ other. differ (text x) other) (map text xs) ≡ true → IsOneOf xs a
    → bytes_eq (text x) (text a) ≡ false
named_apart text x a [] apart is = absurd is
named_apart text x a (y ∷ xs) apart (inl same) = rw (← same) (differ_only (text x) (text y) (and_parts _ _ apart).0)
named_apart text x a (y ∷ xs) apart (inr later) = named_apart text x a xs (and_parts _ _ apart).1 later

find_back : {A : Type 0} (text : A → List ℕ) (values : List A) (a : A) → are_apart (map text values) ≡ true → IsOneOf values a
    → find (λ b. bytes_eq (text b) (text a)) values ≡ Some a
find_back text [] a apart is = absurd is
find_back text (x ∷ xs) a apart (inl same) = rw (bytes_same (text x) (text a) (ap text same)) (ap Some same)
find_back text (x ∷ xs) a apart (inr later) =
    let parts = and_parts _ _ apart in
    rw (named_apart text x a xs parts.0 later) (find_back text xs a parts.1 later)

find_only : {A : Type 0} (text : A → List ℕ) (values : List A) (t : List ℕ) (a : A) → find (λ b. bytes_eq (text b) t) values ≡ Some a
    → IsOneOf values a × (text a ≡ t)
find_only text [] t a e = absurd (none-some a e)
find_only text (x ∷ xs) t a e = elim (cases_Bool (bytes_eq (text x) t)) [
  | inl same ↦ let is = same_Some x a (rw same at e) in (inl is, ap text (sym is) ∙ same_bytes (text x) t same)
  | inr other ↦ let later = find_only text xs t a (rw other at e) in (inr later.0, later.1)
]

pub one_of_is_exact : {A : Type 0} (text : A → List ℕ) (values : List A) → are_apart (map text values) ≡ true → IsExact (one_of text values)
one_of_is_exact text values apart = record {
  back = λ a is. find_back text values a apart is;
  only = λ t a e. find_only text values t a e;
}

-- a byte that none of some texts has
abbrev pub none_has : ℕ → List (List ℕ) → Bool
none_has at [] = true
none_has at (text ∷ texts) = if has_byte at text then false else none_has at texts

found_avoids : {A : Type 0} (text : A → List ℕ) (values : List A) (at : ℕ) → none_has at (map text values) ≡ true
    → (a : A) → IsOneOf values a
    → has_byte at (text a) ≡ false
found_avoids text [] at none a is = absurd is
found_avoids text (x ∷ xs) at none a is = elim (cases_Bool (has_byte at (text x))) [
  | inl has ↦ absurd (false≢true (rw has at none))
  | inr hasnt ↦ elim is [ inl same ↦ subst (λ y. has_byte at (text y) ≡ false) same hasnt | inr later ↦ found_avoids text xs at (rw hasnt at none) a later ]
]

pub one_of_avoids : {A : Type 0} (text : A → List ℕ) (values : List A) (at : ℕ) → none_has at (map text values) ≡ true
    → Avoids (one_of text values) at
one_of_avoids text values at none = λ a is. found_avoids text values at none a is

-- the number of the first row isn't that of a later one, nor is its name
row_apart : (row : ℕ × List ℕ) (rows : List (ℕ × List ℕ)) (n : ℕ)
    → list_all (λ other. if other.0 == row.0 then false else differ row.1 other.1) rows ≡ true
    → is_named rows n ≡ true
    → ((row.0 == n) ≡ false) × (bytes_eq row.1 (name_in rows n) ≡ false)
row_apart row [] n apart is = absurd (false≢true is)
row_apart row (other ∷ rows) n apart is =
    let parts = and_parts (if other.0 == row.0 then false else differ row.1 other.1) _ apart in
    elim (cases_Bool (other.0 == row.0)) [
      | inl same ↦ absurd (false≢true (rw same at parts.0))
      | inr else' ↦ elim (cases_Bool (other.0 == n)) [
        | inl here ↦
            let differs = differ_only row.1 other.1 (rw else' at parts.0) in
            let number : (row.0 == n) ≡ false = ne_eqb row.0 n (λ e. eqb-false other.0 row.0 else' (eqb-true other.0 n here ∙ sym e)) in
            (number, rw here differs)
        | inr later ↦ rw later (row_apart row rows n parts.1 (rw later at is))
      ]
    ]

named_back : (rows : List (ℕ × List ℕ)) (n : ℕ) → are_rows_apart rows ≡ true → is_named rows n ≡ true
    → number_in rows (name_in rows n) ≡ Some n
named_back [] n apart is = absurd (false≢true is)
named_back (row ∷ rows) n apart is =
    let parts = and_parts _ (are_rows_apart rows) apart in
    elim (cases_Bool (row.0 == n)) [
      | inl here ↦ rw (here, bytes_same row.1 row.1 refl) (ap Some (eqb-true row.0 n here))
      | inr later ↦
          let is_later : is_named rows n ≡ true = rw later at is in
          rw (later, (row_apart row rows n parts.0 is_later).1) (named_back rows n parts.1 is_later)
    ]

named_only : (rows : List (ℕ × List ℕ)) (text : List ℕ) (n : ℕ) → are_rows_apart rows ≡ true → number_in rows text ≡ Some n
    → (is_named rows n ≡ true) × (name_in rows n ≡ text)
named_only [] text n apart e = absurd (none-some n e)
named_only (row ∷ rows) text n apart e =
    let parts = and_parts _ (are_rows_apart rows) apart in
    elim (cases_Bool (bytes_eq row.1 text)) [
      | inl here ↦ rw (eq-eqb row.0 n (same_Some row.0 n (rw here at e))) (refl, same_bytes row.1 text here)
      | inr later ↦
          let behind = named_only rows text n parts.1 (rw later at e) in
          rw ((row_apart row rows n parts.0 behind.0).0) behind
    ]

pub one_named_is_exact : (rows : List (ℕ × List ℕ)) → are_rows_apart rows ≡ true → IsExact (one_named rows)
one_named_is_exact rows apart = record {
  back = λ n is. named_back rows n apart is;
  only = λ text n e. named_only rows text n apart e;
}

name_avoids : (rows : List (ℕ × List ℕ)) (at n : ℕ) → none_has at (map (λ row. row.1) rows) ≡ true → is_named rows n ≡ true
    → has_byte at (name_in rows n) ≡ false
name_avoids [] at n none is = refl
name_avoids (row ∷ rows) at n none is = elim (cases_Bool (has_byte at row.1)) [
  | inl has ↦ absurd (false≢true (rw has at none))
  | inr hasnt ↦ elim (cases_Bool (row.0 == n)) [
    | inl here ↦ rw here hasnt
    | inr later ↦ rw later (name_avoids rows at n (rw hasnt at none) (rw later at is))
  ]
]

pub one_named_avoids : (rows : List (ℕ × List ℕ)) (at : ℕ) → none_has at (map (λ row. row.1) rows) ≡ true → Avoids (one_named rows) at
one_named_avoids rows at none = λ n is. name_avoids rows at n none is

-- TESTS OF NUMBERS

-- a test passes for each number below another
abbrev pub passes_below : (ℕ → Bool) → ℕ → Bool
passes_below test zero = true
passes_below test (suc n) = test n && passes_below test n

pub below_passes : (test : ℕ → Bool) (k n : ℕ) → passes_below test k ≡ true → n < k → test n ≡ true
below_passes test zero n all less = absurd (omega (arith, less))
below_passes test (suc k) n all less = elim (cases_Bool (n == k)) [
  | inl same ↦ subst (λ m. test m ≡ true) (sym (eqb-true n k same)) (and_parts (test k) (passes_below test k) all).0
  | inr other ↦ below_passes test k n (and_parts (test k) (passes_below test k) all).1 (omega (arith, less, eqb-false n k other))
]

-- and for each number that a table names
pub named_passes : (test : ℕ → Bool) (rows : List (ℕ × List ℕ)) (n : ℕ) → list_all (λ row. test row.0) rows ≡ true
    → is_named rows n ≡ true → test n ≡ true
named_passes test [] n all is = absurd (false≢true is)
named_passes test (row ∷ rows) n all is =
    let parts = and_parts (test row.0) (list_all (λ row. test row.0) rows) all in
    elim (or_cases (row.0 == n) (is_named rows n) is) [
      | inl here ↦ subst (λ m. test m ≡ true) (eqb-true row.0 n here) parts.0
      | inr later ↦ named_passes test rows n parts.1 later
    ]
