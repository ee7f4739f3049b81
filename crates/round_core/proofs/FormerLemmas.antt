-- Pairs that are marked one after the other, and the live ones that are left.
use Rattle.std.specs.Prelude.{◌≡◌, ℕ, zero, suc, ◌+◌, ◌<◌, ◌≤◌, Bool, true, false, not, Option, None, Some, List, [], ◌∷◌, map, filter, length, slice_get, slice_index_or, slice_set, position, unwrap_or}
use Rattle.std.specs.List.{AllByRecursion, list_any}
use Rattle.std.specs.Map.{keys_of, values_of}
use Rattle.std.specs.Option.{option_map}
use Rattle.std.proofs.Common.{refl, sym, ◌∙◌, ap, subst, inl, inr, arith}
use Rattle.call_context.specs.declared.node.Frame.{Frame}
use Rattle.call_context.specs.declared.node.Node.{Node}
use Rattle.call_context.specs.declared.node.Node.TheVariants.{At, Exit}
use Rattle.call_context.specs.declared.node.Unit.{Unit as WorkUnit}
use Rattle.call_context.specs.declared.node.Unit.TheVariants.{One, Back}
use Rattle.chip_analysis.specs.declared.chip.Work.{Work}
use Rattle.book_rules.specs.declared.versions.Versions.{Versions}
use Rattle.round_core.specs.Former.{no_unit, is_no_unit, marked_pair, marked, live_among}
use Rattle.book_rules.specs.Machine.{Done, IsOfLocation, done_at, waits_for}
use Rattle.round_core.specs.Rows.{mark_part, value_part}
use Rattle.book_rules.specs.Same.{same_frame}
use Rattle.round_core.specs.Works.{done_of, work_of}
use Rattle.round_core.proofs.Cases.{truth, if_true, if_false, get-index, map-get}
use Rattle.round_core.proofs.DerivedTests.{TellsEqual, unit_eq, unit_eq-same}
use Rattle.round_core.proofs.TableLemmas.{keys-marks, at-none, row-at}
use Rattle.round_core.proofs.WorksLemmas.{lookup-done}

some_same : {X : Type 0} (x y : X) (o : Option X) → o ≡ Some x → o ≡ Some y → x ≡ y
some_same x y o e f = let s : Some x ≡ Some y = sym e ∙ f in cc

-- an item at a place is one
pub same_at : {X : Type 0} (xs : List X) (i : ℕ) (x y : X) → i < length xs → x ≡ slice_index_or xs i x → y ≡ slice_index_or xs i y → x ≡ y
same_at xs i x y inside e f = some_same x y (slice_get xs i) (get-index xs i x inside e) (get-index xs i y inside f)

module _ {A : Type 0} (tells : TellsEqual unit_eq) (rows : List (WorkUnit × (Work A × Versions))) (entries : List (WorkUnit × Versions))
    (are : entries ≡ map mark_part rows) (node : Node) (frame : Frame) where
  abbrev test : WorkUnit → Bool
  test = unit_eq (One node)

  abbrev waits_of : Option (Done A) → Bool
  waits_of found = unwrap_or (option_map (λ (d : Done A). list_any (same_frame frame) d.work.waits) found) false

  abbrev as_done : Work A × Versions → Done A
  as_done found = done_of (One node, found)

  same_place : position test (keys_of entries) ≡ position test (keys_of rows)
  same_place = ap (λ es. position test (keys_of es)) are ∙ ap (position test) (keys-marks rows)

  pub waits-none : None ≡ position test (keys_of entries) → false ≡ waits_for (map done_of rows) node frame
  waits-none e =
      let found : done_at (map done_of rows) (One node) ≡ None =
      lookup-done (One node) test (unit_eq-same tells (One node)) rows ∙ ap (option_map as_done) (at-none test rows (sym same_place ∙ sym e)) in
      ap waits_of (sym found)

  pub waits-some : (works : List (WorkUnit × Work A)) → values_of works ≡ map work_of rows → (i : ℕ)
      → Some i ≡ position test (keys_of entries)
      → (b : WorkUnit × Work A) → i < length works → b ≡ slice_index_or works i b
      → list_any (same_frame frame) b.1.waits ≡ waits_for (map done_of rows) node frame
  waits-some works values i e b inside at =
      let row = row-at test rows i (sym same_place ∙ sym e) in
      let own : slice_get (map work_of rows) i ≡ Some b.1 =
      ap (λ ws. slice_get ws i) (sym values) ∙ map-get (λ (p : WorkUnit × Work A). p.1) works i b (get-index works i b inside at) in
      let same : b.1 ≡ row.0.1.0 = some_same b.1 row.0.1.0 (slice_get (map work_of rows) i) own (map-get work_of rows i row.0 row.1) in
      let found : done_at (map done_of rows) (One node) ≡ Some (as_done row.0.1) =
      lookup-done (One node) test (unit_eq-same tells (One node)) rows ∙ ap (option_map as_done) row.2 in
      ap (λ (w : Work A). list_any (same_frame frame) w.waits) same ∙ ap waits_of (sym found)

pub values-rows : {A : Type 0} (rows : List (WorkUnit × (Work A × Versions))) → values_of (map value_part rows) ≡ map work_of rows
values-rows [] = refl
values-rows (row ∷ rows) = ap (λ t. work_of row ∷ t) (values-rows rows)

module _ {W : Type 0} (live : WorkUnit → Bool) where
  marked_value : (pair : WorkUnit × W) → (marked_pair live pair).1 ≡ pair.1
  marked_value pair = elim (truth (live pair.0)) [
    | inl s ↦ ap (λ (p : WorkUnit × W). p.1) (if_true _ _ _ s)
    | inr s ↦ ap (λ (p : WorkUnit × W). p.1) (if_false _ _ _ s)
  ]

  pub marked-values : (count : ℕ) (pairs : List (WorkUnit × W)) → values_of (marked live count pairs) ≡ values_of pairs
  marked-values zero pairs = refl
  marked-values (suc count) [] = refl
  marked-values (suc count) (pair ∷ pairs) =
      ap (λ v. v ∷ values_of (marked live count pairs)) (marked_value pair) ∙ ap (λ t. pair.1 ∷ t) (marked-values count pairs)

  pub marked-length : (count : ℕ) (pairs : List (WorkUnit × W)) → length (marked live count pairs) ≡ length pairs
  marked-length zero pairs = refl
  marked-length (suc count) [] = refl
  marked-length (suc count) (pair ∷ pairs) = let l = marked-length count pairs in omega arith

  still : (place : ℕ) (pairs : List (WorkUnit × W)) (b : WorkUnit × W) → place < length (marked live place pairs)
      → b ≡ slice_index_or (marked live place pairs) place b → live b.0 ≡ true → marked live place pairs ≡ marked live (suc place) pairs
  still zero [] b inside at s = absurd (omega arith)
  still zero (pair ∷ pairs) b inside at s = ap (λ p. p ∷ pairs) (sym (if_true _ _ _ (subst (λ (p : WorkUnit × W). live p.0 ≡ true) at s)))
  still (suc place) [] b inside at s = absurd (omega arith)
  still (suc place) (pair ∷ pairs) b inside at s =
      let below : place < length (marked live place pairs) = omega arith in
      ap (λ t. marked_pair live pair ∷ t) (still place pairs b below at s)

  taken : (place : ℕ) (pairs : List (WorkUnit × W)) (b : WorkUnit × W) → place < length (marked live place pairs)
      → b ≡ slice_index_or (marked live place pairs) place b → live b.0 ≡ false
      → slice_set (marked live place pairs) place (no_unit, b.1) ≡ marked live (suc place) pairs
  taken zero [] b inside at s = absurd (omega arith)
  taken zero (pair ∷ pairs) b inside at s =
      ap (λ (p : WorkUnit × W). (no_unit, p.1) ∷ pairs) at
      ∙ ap (λ p. p ∷ pairs) (sym (if_false _ _ _ (subst (λ (p : WorkUnit × W). live p.0 ≡ false) at s)))
  taken (suc place) [] b inside at s = absurd (omega arith)
  taken (suc place) (pair ∷ pairs) b inside at s =
      let below : place < length (marked live place pairs) = omega arith in
      ap (λ t. marked_pair live pair ∷ t) (taken place pairs b below at s)

  pub marks-live : (items : List (WorkUnit × W)) (place : ℕ) (pairs : List (WorkUnit × W)) (b : WorkUnit × W)
      → items ≡ marked live place pairs
      → place < length items → b ≡ slice_index_or items place b → live b.0 ≡ true → items ≡ marked live (place + 1) pairs
  marks-live items place pairs b are inside at s =
      let next : suc place ≡ place + 1 = omega arith in
      are ∙ still place pairs b (subst (λ (xs : List (WorkUnit × W)). place < length xs) are inside)
      (subst (λ (xs : List (WorkUnit × W)). b ≡ slice_index_or xs place b) are at) s
      ∙ ap (λ n. marked live n pairs) next

  pub marks-dead : (items : List (WorkUnit × W)) (place : ℕ) (pairs : List (WorkUnit × W)) (b : WorkUnit × W)
      → items ≡ marked live place pairs
      → place < length items → b ≡ slice_index_or items place b → live b.0 ≡ false
      → slice_set items place (no_unit, b.1) ≡ marked live (place + 1) pairs
  marks-dead items place pairs b are inside at s =
      let next : suc place ≡ place + 1 = omega arith in
      ap (λ (xs : List (WorkUnit × W)). slice_set xs place (no_unit, b.1)) are
      ∙ taken place pairs b (subst (λ (xs : List (WorkUnit × W)). place < length xs) are inside)
      (subst (λ (xs : List (WorkUnit × W)). b ≡ slice_index_or xs place b) are at) s
      ∙ ap (λ n. marked live n pairs) next

  abbrev remains : WorkUnit × W → Bool
  remains pair = not (is_no_unit pair.0)

  -- once all are marked, what is left are the live ones
  pub left-live : (count : ℕ) (pairs : List (WorkUnit × W)) → length pairs ≤ count
      → AllByRecursion (λ unit. is_no_unit unit ≡ false) (keys_of pairs)
      → filter remains (marked live count pairs) ≡ live_among live pairs
  left-live zero [] small units = refl
  left-live (suc count) [] small units = refl
  left-live zero (pair ∷ pairs) small units = absurd (omega arith)
  left-live (suc count) (pair ∷ pairs) small units =
      let below : length pairs ≤ count = omega arith in
      let rest = left-live count pairs below units.1 in
      elim (truth (live pair.0)) [
        | inl s ↦
            ap (λ p. filter remains (p ∷ marked live count pairs)) (if_true _ _ _ s)
            ∙ if_true _ _ _ (ap not units.0) ∙ ap (λ t. pair ∷ t) rest ∙ sym (if_true _ _ _ s)
        | inr s ↦ ap (λ p. filter remains (p ∷ marked live count pairs)) (if_false _ _ _ s) ∙ rest ∙ sym (if_false _ _ _ s)
      ]

pub keys-rows : {A : Type 0} (rows : List (WorkUnit × (Work A × Versions)))
    → AllByRecursion (λ unit. is_no_unit unit ≡ false) (keys_of rows)
    → AllByRecursion (λ unit. is_no_unit unit ≡ false) (keys_of (map value_part rows))
keys-rows [] all = tt
keys-rows (row ∷ rows) all = (all.0, keys-rows rows all.1)

pub units-rows : {A : Type 0} (rows : List (WorkUnit × (Work A × Versions)))
    → AllByRecursion (λ (d : Done A). is_no_unit d.unit ≡ false) (map done_of rows)
    → AllByRecursion (λ unit. is_no_unit unit ≡ false) (keys_of rows)
units-rows [] all = tt
units-rows (row ∷ rows) all = (all.0, units-rows rows all.1)

-- each unit that was done is some unit
is_some_unit : (unit : WorkUnit) → IsOfLocation unit → is_no_unit unit ≡ false
is_some_unit (One (At pc calls frame)) s = refl
is_some_unit (One (Exit pc frame)) s = absurd s
is_some_unit (Back node exit) s = refl

pub all_some_units : {A : Type 0} (ds : List (Done A)) → AllByRecursion (λ (d : Done A). IsOfLocation d.unit) ds
    → AllByRecursion (λ (d : Done A). is_no_unit d.unit ≡ false) ds
all_some_units [] are = tt
all_some_units (d ∷ ds) are = (is_some_unit d.unit are.0, all_some_units ds are.1)
