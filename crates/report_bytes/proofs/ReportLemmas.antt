-- Sets of lines, put together piece by piece.
use Rattle.std.proofs.Common.{◌≡◌, ◌++◌, ◌+◌, ◌<◌, ℕ, suc, List, [], ◌∷◌, Vec, Global, refl, ap, sym, ◌∙◌, Bool, true, false, cond, add-one, drop, drop-cons, get_or, length}
use Rattle.std.specs.Prelude.{map, filter, ◌&&◌, if◌then◌else◌, Option}
use Rattle.std.specs.List.{flat_map}
use Rattle.std.specs.Ordering.{nat_cmp, match_ordering}
use Rattle.std.specs.BTreeSet.{insert_key}
use Rattle.std.specs.Cmp.Lexicographic.{slice_cmp}
use Rattle.std.specs.declared.cmp.Ordering.TheVariants.{Less, Equal, Greater}
use Rattle.call_context.specs.declared.shown.Item.{Item}
use Rattle.std.proofs.Math.Bool.{and-true, and_assoc}
use Rattle.chip_analysis.specs.declared.chip.Work.{Work}
use Rattle.report_bytes.specs.declared.deepest.Deepest.{Deepest}
use Rattle.report_bytes.specs.Deepest.{deepest_of, deeper_of, deepest_in}
use Rattle.report_bytes.specs.Report.{bytes_of, with_lines, are_closed, is_empty}

-- a set of vectors grows as the set of their bytes does
pub bytes_of-insert_key : (keys : List (Vec ℕ Global)) (line : Vec ℕ Global)
    → bytes_of (insert_key (λ x y. slice_cmp nat_cmp x.items y.items) keys line) ≡ insert_key (slice_cmp nat_cmp) (bytes_of keys) line.items
bytes_of-insert_key [] line = refl
bytes_of-insert_key (key ∷ keys) line = let rest = bytes_of-insert_key keys line in
    elim (slice_cmp nat_cmp line.items key.items) as (λ o. bytes_of (match_ordering o (line ∷ key ∷ keys) (key ∷ keys) (key ∷ insert_key (λ x y. slice_cmp nat_cmp x.items y.items) keys line)) ≡ match_ordering o (line.items ∷ key.items ∷ bytes_of keys) (key.items ∷ bytes_of keys) (key.items ∷ insert_key (slice_cmp nat_cmp) (bytes_of keys) line.items)) [
      | Less ↦ refl
      | Equal ↦ refl
      | Greater ↦ ap (λ lines. key.items ∷ lines) rest
    ]

pub with_lines-append : (set front back : List (List ℕ)) → with_lines set (front ++ back) ≡ with_lines (with_lines set front) back
with_lines-append set [] back = refl
with_lines-append set (line ∷ front) back = with_lines-append (insert_key (slice_cmp nat_cmp) set line) front back

pub deepest_of-append : (front back : List Item) (deepest : Option Deepest)
    → deepest_of deepest (front ++ back) ≡ deepest_of (deepest_of deepest front) back
deepest_of-append [] back deepest = refl
deepest_of-append (item ∷ front) back deepest = deepest_of-append front back (deeper_of deepest (deepest_in item))

-- the lines of items and then of opens, where both are told
pub told_lines : (live : Bool) (set items opens middle new : List (List ℕ)) → live ≡ true
    → middle ≡ with_lines set items → new ≡ with_lines middle opens
    → new ≡ with_lines set (if live then items ++ opens else [])
told_lines true set items opens middle new h e f = f ∙ ap (λ m. with_lines m opens) e ∙ sym (with_lines-append set items opens)
told_lines false set items opens middle new h e f = absurd (cc)

-- pairs that pass, without what was tested
module _ {U W : Type 0} (p : U → Bool) where
  abbrev pub passing : List (U × W) → List W
  passing pairs = map (λ q. q.1) (filter (λ q. p q.0) pairs)

  pub passing-cons : (pair : U × W) (pairs : List (U × W)) (live : Bool) → p pair.0 ≡ live
      → passing (pair ∷ pairs) ≡ (if live then pair.1 ∷ passing pairs else passing pairs)
  passing-cons pair pairs live e = rw e (elim live as (λ b. map (λ q. q.1) (cond b (pair ∷ filter (λ q. p q.0) pairs) (filter (λ q. p q.0) pairs)) ≡ (if b then pair.1 ∷ passing pairs else passing pairs)) [ true ↦ refl | false ↦ refl ])

-- what one more work tells
module _ {A : Type 0} (lines_by : Work A → List (List ℕ)) where
  pub lines_more : (live : Bool) (work : Work A) (left : List (Work A)) (set new all : List (List ℕ))
      → new ≡ with_lines set (if live then lines_by work else [])
      → with_lines set (flat_map lines_by (if live then work ∷ left else left)) ≡ all
      → with_lines new (flat_map lines_by left) ≡ all
  lines_more true work left set new all e h = ap (λ s. with_lines s (flat_map lines_by left)) e ∙ sym (with_lines-append set (lines_by work) (flat_map lines_by left)) ∙ h
  lines_more false work left set new all e h = ap (λ s. with_lines s (flat_map lines_by left)) e ∙ h

pub closed_more : {A : Type 0} (live : Bool) (work : Work A) (left : List (Work A)) (old new all : Bool)
    → new ≡ (old && (if live then is_empty work.opens else true))
    → (old && are_closed (if live then work ∷ left else left)) ≡ all → (new && are_closed left) ≡ all
closed_more true work left old new all e h = ap (λ b. b && are_closed left) e ∙ and_assoc old (is_empty work.opens) (are_closed left) ∙ h
closed_more false work left old new all e h = ap (λ b. b && are_closed left) e ∙ ap (λ b. b && are_closed left) (and-true old) ∙ h

pub deepest_more : {A : Type 0} (live : Bool) (work : Work A) (left : List (Work A)) (old new all : Option Deepest)
    → new ≡ deepest_of old (if live then work.items else [])
    → deepest_of old (flat_map (λ w. w.items) (if live then work ∷ left else left)) ≡ all
    → deepest_of new (flat_map (λ w. w.items) left) ≡ all
deepest_more true work left old new all e h = ap (λ l. deepest_of l (flat_map (λ w. w.items) left)) e ∙ sym (deepest_of-append work.items (flat_map (λ w. w.items) left) old) ∙ h
deepest_more false work left old new all e h = ap (λ l. deepest_of l (flat_map (λ w. w.items) left)) e ∙ h

-- what is left begins with the item at the index
pub first_left : {X : Type 0} (i : ℕ) (items : List X) (item : X) → i < length items → item ≡ get_or items i item
    → drop i items ≡ item ∷ drop (i + 1) items
first_left i items item h e = rw add-one (drop-cons items i item h ∙ ap (λ x. x ∷ drop (suc i) items) (sym e))
