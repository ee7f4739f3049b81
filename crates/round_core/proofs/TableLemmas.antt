-- The two lists of a table are the parts of the same rows.
use Rattle.std.specs.Prelude.{◌≡◌, ℕ, zero, suc, ◌+◌, ◌<◌, Bool, true, false, cond, Option, None, Some, List, [], ◌∷◌, ◌++◌, map, length, slice_get, slice_index_or, slice_set, position}
use Rattle.std.specs.Option.{option_map}
use Rattle.std.specs.Cmp.{IsEquivalence}
use Rattle.std.specs.List.{AllByRecursion, IsDistinct}
use Rattle.std.specs.Map.{keys_of, lookup}
use Rattle.std.proofs.Common.{refl, sym, ◌∙◌, ap, subst, inl, inr, arith}
use Rattle.std.proofs.Math.Path.{ap₂}
use Rattle.std.proofs.lemmas.Bool.Decides.{nat_tests}
use Rattle.indexmap.specs.IndexMap.{insert_entry, set_value_at}
use Rattle.round_core.specs.Rows.{mark_part, value_part, rows_of, AreRowsOf, with_value, with_entry}
use Rattle.round_core.proofs.Cases.{truth, get-index, if_true, if_false, next_place, no_place}

abbrev some_zero : Option ℕ
some_zero = Some 0

-- the position of the first key that passes, by recursion
abbrev place_by : {K X : Type 0} → (K → Bool) → List (K × X) → Option ℕ
place_by test [] = None
place_by test (e ∷ es) = cond (test e.0) (Some 0) (option_map (λ place. place + 1) (place_by test es))

pub position-place : {K X : Type 0} → (test : K → Bool) (es : List (K × X)) → position test (keys_of es) ≡ place_by test es
position-place test [] = refl
position-place test (e ∷ es) = elim (truth (test e.0)) [
  | inl s ↦ grind (arith, nat_tests, s)
  | inr s ↦ let i = position-place test es in grind (arith, nat_tests, s, i)
]

-- a value in a place, whose key stays
pub set-value : {K V : Type 0} → (xs : List (K × V)) (i : ℕ) (x : K × V) (value : V) → i < length xs → x ≡ slice_index_or xs i x
    → slice_set xs i (x.0, value) ≡ with_value xs i value
set-value [] i x value h e = absurd (omega arith)
set-value (y ∷ xs) zero x value h e = ap (λ t. (t.0, value) ∷ xs) e
set-value (y ∷ xs) (suc i) x value h e = let below : i < length xs = omega arith in ap (λ t. y ∷ t) (set-value xs i x value below e)

module _ {K V M : Type 0} where
  rows_of-parts : (rows : List (K × (V × M))) → rows_of (map mark_part rows) (map value_part rows) ≡ rows
  rows_of-parts [] = refl
  rows_of-parts (row ∷ rows) = ap (λ t. row ∷ t) (rows_of-parts rows)

  rows_are : (marks : List (K × M)) (values : List (K × V)) (rows : List (K × (V × M))) → marks ≡ map mark_part rows
      → values ≡ map value_part rows → (rows_of marks values ≡ rows) × AreRowsOf marks values
  rows_are marks values rows m v =
      let e : rows_of marks values ≡ rows = ap₂ (λ x y. rows_of x y) m v ∙ rows_of-parts rows in
      (e, record { marks_are = m ∙ ap (λ t. map mark_part t) (sym e); values_are = v ∙ ap (λ t. map value_part t) (sym e) })

  -- the row at a place, by its two parts
  pub row-of : (rows : List (K × (V × M))) (i : ℕ) (k : K) (m : M) → slice_get (map mark_part rows) i ≡ Some (k, m)
      → (b : K × V) → slice_get (map value_part rows) i ≡ Some b → slice_get rows i ≡ Some (k, (b.1, m))
  row-of [] i k m g b q = absurd (cc)
  row-of (row ∷ rows) zero k m g b q =
      let e : mark_part row ≡ (k, m) = cc in let f : value_part row ≡ b = cc in ap₂ (λ t v. Some (t.0, (v, t.1))) e (ap (λ t. t.1) f)
  row-of (row ∷ rows) (suc i) k m g b q = row-of rows i k m g b q

  -- the value at a place of the second list
  pub value-at : (rows : List (K × (V × M))) (values : List (K × V)) (i : ℕ) (b : K × V) → values ≡ map value_part rows → i < length values
      → b ≡ slice_index_or values i b → slice_get (map value_part rows) i ≡ Some b
  value-at rows values i b e inside is = subst (λ xs. slice_get xs i ≡ Some b) e (get-index values i b inside is)

  pub keys-marks : (rows : List (K × (V × M))) → keys_of (map mark_part rows) ≡ keys_of rows
  keys-marks [] = refl
  keys-marks (row ∷ rows) = ap (λ t. row.0 ∷ t) (keys-marks rows)

  pub keys-values : (rows : List (K × (V × M))) → keys_of (map value_part rows) ≡ keys_of rows
  keys-values [] = refl
  keys-values (row ∷ rows) = ap (λ t. row.0 ∷ t) (keys-values rows)

  module _ (test : K → Bool) where
    -- the row at the place of a key
    at-place : (rows : List (K × (V × M))) (i : ℕ) → place_by test rows ≡ Some i → (k : K) (m : M)
        → slice_get (map mark_part rows) i ≡ Some (k, m) → (b : K × V) → slice_get (map value_part rows) i ≡ Some b
        → lookup test rows ≡ Some (b.1, m)
    at-place [] i p k m g b q = absurd (cc)
    at-place (row ∷ rows) i p k m g b q = elim (truth (test row.0)) [
      | inl s ↦
          let here : some_zero ≡ Some i = sym (if_true _ _ _ s) ∙ p in
          let z : i ≡ 0 = cc in
          let g0 : Some (mark_part row) ≡ Some (k, m) = subst (λ n. slice_get (map mark_part (row ∷ rows)) n ≡ Some (k, m)) z g in
          let q0 : Some (value_part row) ≡ Some b = subst (λ n. slice_get (map value_part (row ∷ rows)) n ≡ Some b) z q in
          let g1 : mark_part row ≡ (k, m) = cc in
          let q1 : value_part row ≡ b = cc in
          if_true _ _ _ s ∙ ap₂ (λ v t. Some (v, t)) (ap (λ t. t.1) q1) (ap (λ t. t.1) g1)
      | inr s ↦
          let n = next_place (place_by test rows) i (sym (if_false _ _ _ s) ∙ p) in
          let below : i ≡ suc n.0 = omega arith in
          if_false _ _ _ s ∙ at-place rows n.0 n.1 k m
          (subst (λ j. slice_get (map mark_part (row ∷ rows)) j ≡ Some (k, m)) below g) b
          (subst (λ j. slice_get (map value_part (row ∷ rows)) j ≡ Some b) below q)
    ]

    -- the row whose key passes first
    row-there : (rows : List (K × (V × M))) (i : ℕ) → place_by test rows ≡ Some i
        → (row : K × (V × M)) × (slice_get rows i ≡ Some row) × (lookup test rows ≡ Some row.1)
    row-there [] i p = absurd (cc)
    row-there (row ∷ rows) i p = elim (truth (test row.0)) [
      | inl s ↦
          let here : some_zero ≡ Some i = sym (if_true _ _ _ s) ∙ p in
          let z : 0 ≡ i = cc in
          (row, subst (λ n. slice_get (row ∷ rows) n ≡ Some row) z refl, if_true _ _ _ s)
      | inr s ↦
          let n = next_place (place_by test rows) i (sym (if_false _ _ _ s) ∙ p) in
          let below : suc n.0 ≡ i = omega arith in
          let there = row-there rows n.0 n.1 in
          (there.0, subst (λ j. slice_get (row ∷ rows) j ≡ Some there.0) below there.1, if_false _ _ _ s ∙ there.2)
    ]

    pub row-at : (rows : List (K × (V × M))) (i : ℕ) → position test (keys_of rows) ≡ Some i
        → (row : K × (V × M)) × (slice_get rows i ≡ Some row) × (lookup test rows ≡ Some row.1)
    row-at rows i p = row-there rows i (sym (position-place test rows) ∙ p)

    no-row : (rows : List (K × (V × M))) → place_by test rows ≡ None → lookup test rows ≡ None
    no-row [] p = refl
    no-row (row ∷ rows) p = elim (truth (test row.0)) [
      | inl s ↦ let here : some_zero ≡ None = sym (if_true _ _ _ s) ∙ p in absurd (cc)
      | inr s ↦ if_false _ _ _ s ∙ no-row rows (no_place _ (sym (if_false _ _ _ s) ∙ p))
    ]

    pub at-some : (rows : List (K × (V × M))) (i : ℕ) → position test (keys_of rows) ≡ Some i → (k : K) (m : M)
        → slice_get (map mark_part rows) i ≡ Some (k, m) → (b : K × V) → slice_get (map value_part rows) i ≡ Some b
        → lookup test rows ≡ Some (b.1, m)
    at-some rows i p = at-place rows i (sym (position-place test rows) ∙ p)

    pub at-none : (rows : List (K × (V × M))) → position test (keys_of rows) ≡ None → lookup test rows ≡ None
    at-none rows p = no-row rows (sym (position-place test rows) ∙ p)

  module _ (eq : K → K → Bool) (key : K) (value : V) (mark : M) where
    marks-set : (rows : List (K × (V × M)))
        → insert_entry eq (map mark_part rows) key mark ≡ map mark_part (insert_entry eq rows key (value, mark))
    marks-set [] = refl
    marks-set (row ∷ rows) = elim (truth (eq key row.0)) [
      | inl s ↦ if_true _ _ _ s ∙ ap (λ r. map mark_part r) (sym (if_true _ _ _ s))
      | inr s ↦ if_false _ _ _ s ∙ ap (λ r. mark_part row ∷ r) (marks-set rows) ∙ ap (λ r. map mark_part r) (sym (if_false _ _ _ s))
    ]

    value-there : (rows : List (K × (V × M))) (i : ℕ) → place_by (eq key) rows ≡ Some i
        → with_value (map value_part rows) i value ≡ map value_part (insert_entry eq rows key (value, mark))
    value-there [] i p = absurd (cc)
    value-there (row ∷ rows) i p = elim (truth (eq key row.0)) [
      | inl s ↦
          let here : some_zero ≡ Some i = sym (if_true _ _ _ s) ∙ p in
          let z : 0 ≡ i = cc in
          subst (λ n. with_value (map value_part (row ∷ rows)) n value ≡ (row.0, value) ∷ map value_part rows) z refl
          ∙ ap (λ t. map value_part t) (sym (if_true _ _ _ s))
      | inr s ↦
          let n = next_place (place_by (eq key) rows) i (sym (if_false _ _ _ s) ∙ p) in
          let below : suc n.0 ≡ i = omega arith in
          subst (λ m. with_value (map value_part (row ∷ rows)) m value ≡ value_part row ∷ map value_part (insert_entry eq rows key (value, mark))) below
          (ap (λ t. value_part row ∷ t) (value-there rows n.0 n.1))
          ∙ ap (λ t. map value_part t) (sym (if_false _ _ _ s))
    ]

    value-new : (rows : List (K × (V × M))) → place_by (eq key) rows ≡ None
        → map value_part rows ++ (key, value) ∷ [] ≡ map value_part (insert_entry eq rows key (value, mark))
    value-new [] p = refl
    value-new (row ∷ rows) p = elim (truth (eq key row.0)) [
      | inl s ↦ let here : some_zero ≡ None = sym (if_true _ _ _ s) ∙ p in absurd (cc)
      | inr s ↦
          ap (λ t. value_part row ∷ t) (value-new rows (no_place _ (sym (if_false _ _ _ s) ∙ p)))
          ∙ ap (λ t. map value_part t) (sym (if_false _ _ _ s))
    ]

    value-set : (rows : List (K × (V × M))) (o : Option ℕ) → o ≡ place_by (eq key) rows
        → with_entry (map value_part rows) o key value ≡ map value_part (insert_entry eq rows key (value, mark))
    value-set rows None e = value-new rows (sym e)
    value-set rows (Some i) e = value-there rows i (sym e)

    values-set : (rows : List (K × (V × M))) (o : Option ℕ) → o ≡ position (eq key) (keys_of rows)
        → with_entry (map value_part rows) o key value ≡ map value_part (insert_entry eq rows key (value, mark))
    values-set rows o e = value-set rows o (e ∙ position-place (eq key) rows)

    -- both lists with a row in its place
    pub set_rows : (place : Option ℕ) (marks marks' : List (K × M)) (values values' : List (K × V))
        → AreRowsOf marks values → marks' ≡ insert_entry eq marks key mark
        → values' ≡ with_entry values place key value → place ≡ position (eq key) (keys_of (rows_of marks values))
        → (rows_of marks' values' ≡ insert_entry eq (rows_of marks values) key (value, mark)) × AreRowsOf marks' values'
    set_rows place marks marks' values values' are m v p =
        let rows = rows_of marks values in
        rows_are marks' values' (insert_entry eq rows key (value, mark))
        (m ∙ ap (λ es. insert_entry eq es key mark) are.marks_are ∙ marks-set rows)
        (v ∙ ap (λ xs. with_entry xs place key value) are.values_are ∙ values-set rows place p)

-- a value that is put at the place of its key
insert-place : {K X : Type 0} → (eq : K → K → Bool) (key : K) (x : X) (es : List (K × X)) (i : ℕ)
    → place_by (eq key) es ≡ Some i → set_value_at es i x ≡ insert_entry eq es key x
insert-place eq key x [] i p = absurd (cc)
insert-place eq key x (e ∷ es) i p = elim (truth (eq key e.0)) [
  | inl s ↦
      let here : some_zero ≡ Some i = sym (if_true _ _ _ s) ∙ p in
      let z : 0 ≡ i = cc in
      subst (λ n. set_value_at (e ∷ es) n x ≡ (e.0, x) ∷ es) z refl ∙ sym (if_true _ _ _ s)
  | inr s ↦
      let n = next_place (place_by (eq key) es) i (sym (if_false _ _ _ s) ∙ p) in
      let below : suc n.0 ≡ i = omega arith in
      subst (λ m. set_value_at (e ∷ es) m x ≡ e ∷ insert_entry eq es key x) below (ap (λ t. e ∷ t) (insert-place eq key x es n.0 n.1))
      ∙ sym (if_false _ _ _ s)
]

pub insert-there : {K X : Type 0} → (eq : K → K → Bool) (key : K) (x : X) (es : List (K × X)) (i : ℕ)
    → position (eq key) (keys_of es) ≡ Some i
    → set_value_at es i x ≡ insert_entry eq es key x
insert-there eq key x es i p = insert-place eq key x es i (sym (position-place (eq key) es) ∙ p)

bound-by : {K X : Type 0} → (test : K → Bool) (es : List (K × X)) (i : ℕ) → place_by test es ≡ Some i → i < length es
bound-by test [] i p = absurd (cc)
bound-by test (e ∷ es) i p = elim (truth (test e.0)) [
  | inl s ↦ let here : some_zero ≡ Some i = sym (if_true _ _ _ s) ∙ p in let z : i ≡ 0 = cc in omega arith
  | inr s ↦ let n = next_place (place_by test es) i (sym (if_false _ _ _ s) ∙ p) in let b = bound-by test es n.0 n.1 in omega arith
]

pub place-bound : {K X : Type 0} → (test : K → Bool) (es : List (K × X)) (i : ℕ) → position test (keys_of es) ≡ Some i → i < length es
place-bound test es i p = bound-by test es i (sym (position-place test es) ∙ p)

all-keys : {K X : Type 0} → (P : K → Type 0) (es : List (K × X)) → AllByRecursion P (keys_of es)
    → (i : ℕ) (k : K) (x : X) → slice_get es i ≡ Some (k, x) → P k
all-keys P [] a i k x h = absurd (cc)
all-keys P (e ∷ es) a zero k x h = let same : e ≡ (k, x) = cc in subst (λ t. P t) (ap (λ t. t.0) same) a.0
all-keys P (e ∷ es) a (suc i) k x h = all-keys P es a.1 i k x h

near-by : {K X : Type 0} → (eq : K → K → Bool) → IsEquivalence eq → (es : List (K × X)) → IsDistinct eq (keys_of es)
    → (i : ℕ) (k : K) (x : X) → slice_get es i ≡ Some (k, x) → (key : K) → eq key k ≡ true → place_by (eq key) es ≡ Some i
unfolding IsDistinct
near-by eq laws [] d i k x h key t = absurd (cc)
near-by eq laws (e ∷ es) d zero k x h key t = let same : e ≡ (k, x) = cc in if_true _ _ _ (ap (λ s. eq key s.0) same ∙ t)
near-by eq laws (e ∷ es) d (suc i) k x h key t =
    let no : eq key e.0 ≡ false = laws.congr key k e.0 t ∙ laws.symm k e.0 ∙ all-keys (λ y. eq e.0 y ≡ false) es d.0 i k x h in
    let up : i + 1 ≡ suc i = omega arith in
    if_false _ _ _ no ∙ ap (λ o. option_map (λ place. place + 1) o) (near-by eq laws es d.1 i k x h key t) ∙ ap (λ n. Some n) up

-- a key that stands at a place is found there
pub near-place : {K X : Type 0} → (eq : K → K → Bool) → IsEquivalence eq → (es : List (K × X)) → IsDistinct eq (keys_of es)
    → (i : ℕ) (k : K) (x : X) → slice_get es i ≡ Some (k, x) → (key : K) → eq key k ≡ true → position (eq key) (keys_of es) ≡ Some i
near-place eq laws es d i k x h key t = position-place (eq key) es ∙ near-by eq laws es d i k x h key t
