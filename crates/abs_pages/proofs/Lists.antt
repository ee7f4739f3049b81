-- Lists of cells put together from parts.
use Rattle.std.proofs.Common.{◌≡◌, ℕ, ◌<◌, ◌≤◌, ◌++◌, refl, ap, ◌∙◌, Bool, true, false, Option, None, Some, List, [], ◌∷◌, inl, inr, ltb}
use Rattle.std.specs.Prelude.{◌≢◌, ◌==◌, ◌&&◌}
use Rattle.std.specs.List.{filter}
use Rattle.std.specs.Option.{is_some, option_map}
use Rattle.std.proofs.lemmas.Bool.{cases_Bool, lt-ltb, le-ltb, and_parts}
use Rattle.entry_value.specs.declared.cells.Cell.{Cell}
use Rattle.entry_value.specs.declared.word.Word.{Word}
use Rattle.entry_value.specs.CellLists.{Each}
use Rattle.entry_value.specs.Cells.{cell_at, insert, is_found_within, are_within, kept, next, with_some}
use Rattle.abs_pages.specs.Paging.{begun_at}

pub each_append : (P : Cell → Type 0) (xs ys : List Cell) → Each P xs → Each P ys → Each P (xs ++ ys)
each_append P [] ys h k = k
each_append P (x ∷ xs) ys h k = (h.0, each_append P xs ys h.1 k)

-- FILTERS

pub filter_append : (test : Cell → Bool) (xs ys : List Cell) → filter test (xs ++ ys) ≡ filter test xs ++ filter test ys
filter_append test [] ys = refl
filter_append test (x ∷ xs) ys = elim (cases_Bool (test x)) [
  | inl holds ↦ rw holds (ap (λ rest. x ∷ rest) (filter_append test xs ys))
  | inr fails ↦ rw fails (filter_append test xs ys)
]

pub filter_all : (test : Cell → Bool) (xs : List Cell) → Each (λ x. test x ≡ true) xs → filter test xs ≡ xs
filter_all test [] h = refl
filter_all test (x ∷ xs) h = rw h.0 (ap (λ rest. x ∷ rest) (filter_all test xs h.1))

pub filter_same : (p q : Cell → Bool) (xs : List Cell) → Each (λ x. p x ≡ q x) xs → filter p xs ≡ filter q xs
filter_same p q [] h = refl
filter_same p q (x ∷ xs) h = elim (cases_Bool (q x)) [
  | inl holds ↦ rw (h.0 ∙ holds, holds) (ap (λ rest. x ∷ rest) (filter_same p q xs h.1))
  | inr fails ↦ rw (h.0 ∙ fails, fails) (filter_same p q xs h.1)
]

pub filter_twice : (p q : Cell → Bool) (xs : List Cell) → filter p (filter q xs) ≡ filter (λ x. q x && p x) xs
filter_twice p q [] = refl
filter_twice p q (x ∷ xs) = elim (cases_Bool (q x)) [
  | inl holds ↦ elim (cases_Bool (p x)) [
    | inl both ↦ rw (holds, both) (ap (λ rest. x ∷ rest) (filter_twice p q xs))
    | inr fails ↦ rw (holds, fails) (filter_twice p q xs)
  ]
  | inr fails ↦ rw fails (filter_twice p q xs)
]

-- WHAT IS KEPT

with_some_append : (found : Option Cell) (xs ys : List Cell) → with_some found (xs ++ ys) ≡ with_some found xs ++ ys
with_some_append None xs ys = refl
with_some_append (Some cell) xs ys = refl

pub kept_append : (f : Cell → Option Cell) (xs ys : List Cell) → kept f (xs ++ ys) ≡ kept f xs ++ kept f ys
kept_append f [] ys = refl
kept_append f (x ∷ xs) ys = ap (with_some (f x)) (kept_append f xs ys) ∙ with_some_append (f x) (kept f xs) (kept f ys)

pub kept_same : (f g : Cell → Option Cell) (xs : List Cell) → Each (λ x. f x ≡ g x) xs → kept f xs ≡ kept g xs
kept_same f g [] h = refl
kept_same f g (x ∷ xs) h = rw h.0 (ap (with_some (g x)) (kept_same f g xs h.1))

pub kept_all : (f : Cell → Option Cell) (xs : List Cell) → Each (λ x. f x ≡ Some x) xs → kept f xs ≡ xs
kept_all f [] h = refl
kept_all f (x ∷ xs) h = rw h.0 (ap (λ rest. x ∷ rest) (kept_all f xs h.1))

pub kept_none : (f : Cell → Option Cell) (xs : List Cell) → Each (λ x. f x ≡ None) xs → kept f xs ≡ []
kept_none f [] h = refl
kept_none f (x ∷ xs) h = rw h.0 (kept_none f xs h.1)

-- FINDING

pub cell_at_right : (xs ys : List Cell) (place size : ℕ) → Each (λ x. (x.place == place) ≡ false) xs
    → cell_at (xs ++ ys) place size ≡ cell_at ys place size
cell_at_right [] ys place size h = refl
cell_at_right (x ∷ xs) ys place size h = rw h.0 (cell_at_right xs ys place size h.1)

cell_at_none : (ys : List Cell) (place size : ℕ) → Each (λ y. (y.place == place) ≡ false) ys → cell_at ys place size ≡ None
cell_at_none [] place size h = refl
cell_at_none (y ∷ ys) place size h = rw h.0 (cell_at_none ys place size h.1)

pub cell_at_left : (xs ys : List Cell) (place size : ℕ) → Each (λ y. (y.place == place) ≡ false) ys
    → cell_at (xs ++ ys) place size ≡ cell_at xs place size
cell_at_left [] ys place size h = cell_at_none ys place size h
cell_at_left (x ∷ xs) ys place size h = elim (cases_Bool ((x.place == place) && (x.size == size))) [
  | inl holds ↦ rw holds refl
  | inr fails ↦ rw fails (cell_at_left xs ys place size h)
]

pub begun_at_right : (xs ys : List Cell) (at : ℕ) → Each (λ x. (x.place == at) ≡ false) xs → begun_at (xs ++ ys) at ≡ begun_at ys at
begun_at_right [] ys at h = refl
begun_at_right (x ∷ xs) ys at h = rw h.0 (begun_at_right xs ys at h.1)

begun_at_none : (ys : List Cell) (at : ℕ) → Each (λ y. (y.place == at) ≡ false) ys → begun_at ys at ≡ None
begun_at_none [] at h = refl
begun_at_none (y ∷ ys) at h = rw h.0 (begun_at_none ys at h.1)

pub begun_at_left : (xs ys : List Cell) (at : ℕ) → Each (λ y. (y.place == at) ≡ false) ys → begun_at (xs ++ ys) at ≡ begun_at xs at
begun_at_left [] ys at h = begun_at_none ys at h
begun_at_left (x ∷ xs) ys at h = elim (cases_Bool (x.place == at)) [
  | inl holds ↦ rw holds refl
  | inr fails ↦ rw fails (begun_at_left xs ys at h)
]

-- the cell that is next, as it is shown
abbrev pub shown : Cell → ℕ × ℕ × Word
shown cell = (cell.place, cell.size, cell.word)

pub next_before : (xs ys : List Cell) (from : ℕ) → Each (λ x. x.place < from) xs → next (xs ++ ys) from ≡ next ys from
next_before [] ys from h = refl
next_before (x ∷ xs) ys from h = rw (lt-ltb x.place from h.0) (next_before xs ys from h.1)

pub next_found : (xs ys : List Cell) (from : ℕ) (found : Option (ℕ × ℕ × Word))
    → found ≡ option_map shown (next xs from) → is_some found ≡ true
    → found ≡ option_map shown (next (xs ++ ys) from)
next_found [] ys from found e some = absurd (let none : is_some found ≡ false = ap is_some e in cc)
next_found (x ∷ xs) ys from found e some = elim (cases_Bool (ltb x.place from)) [
  | inl before ↦ rw before (next_found xs ys from found (rw before at e) some)
  | inr here ↦ rw here (rw here at e)
]

pub next_not_found : (xs ys : List Cell) (from : ℕ) (found : Option (ℕ × ℕ × Word))
    → found ≡ option_map shown (next xs from) → is_some found ≡ false
    → next (xs ++ ys) from ≡ next ys from
next_not_found [] ys from found e none = refl
next_not_found (x ∷ xs) ys from found e none = elim (cases_Bool (ltb x.place from)) [
  | inl before ↦ rw before (next_not_found xs ys from found (rw before at e) none)
  | inr here ↦ absurd (let some : is_some found ≡ true = ap is_some (rw here at e) in cc)
]

-- INSERTING

pub insert_behind : (cell : Cell) (xs ys : List Cell) → Each (λ x. x.place ≤ cell.place) xs → insert cell (xs ++ ys) ≡ xs ++ insert cell ys
insert_behind cell [] ys h = refl
insert_behind cell (x ∷ xs) ys h = rw (le-ltb cell.place x.place h.0) (ap (λ rest. x ∷ rest) (insert_behind cell xs ys h.1))

pub insert_before : (cell : Cell) (ys : List Cell) → Each (λ y. cell.place < y.place) ys → insert cell ys ≡ cell ∷ ys
insert_before cell [] h = refl
insert_before cell (y ∷ ys) h = rw (lt-ltb cell.place y.place h.0) refl

pub insert_front : (cell : Cell) (xs ys : List Cell) → Each (λ y. cell.place < y.place) ys → insert cell (xs ++ ys) ≡ insert cell xs ++ ys
insert_front cell [] ys h = insert_before cell ys h
insert_front cell (x ∷ xs) ys h = elim (cases_Bool (ltb cell.place x.place)) [
  | inl holds ↦ rw holds refl
  | inr fails ↦ rw fails (ap (λ rest. x ∷ rest) (insert_front cell xs ys h))
]

-- BEING WITHIN

pub within_append : (new xs ys : List Cell) → are_within new (xs ++ ys) ≡ (are_within new xs && are_within new ys)
within_append new [] ys = refl
within_append new (x ∷ xs) ys = elim (cases_Bool (is_found_within (cell_at new x.place x.size) x.word)) [
  | inl holds ↦ rw holds (within_append new xs ys)
  | inr fails ↦ rw fails refl
]

pub within_same : (new other xs : List Cell) → Each (λ x. cell_at new x.place x.size ≡ cell_at other x.place x.size) xs
    → are_within new xs ≡ are_within other xs
within_same new other [] h = refl
within_same new other (x ∷ xs) h =
    ap (λ (found : Option Word). is_found_within found x.word && are_within new xs) h.0
    ∙ ap (λ rest. is_found_within (cell_at other x.place x.size) x.word && rest) (within_same new other xs h.1)

pub within_none : (xs : List Cell) → xs ≢ [] → are_within [] xs ≡ false
within_none [] h = absurd (h refl)
within_none (x ∷ xs) h = refl

pub within_each : (new xs : List Cell) → are_within new xs ≡ true
    → Each (λ x. is_found_within (cell_at new x.place x.size) x.word ≡ true) xs
within_each new [] h = tt
within_each new (x ∷ xs) h =
    let parts = and_parts (is_found_within (cell_at new x.place x.size) x.word) (are_within new xs) h in (parts.0, within_each new xs parts.1)
