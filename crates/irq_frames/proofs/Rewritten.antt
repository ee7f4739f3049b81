-- A walk over cells in ascending order, each of which becomes another one in its place, or goes.
use Rattle.std.proofs.Common.{◌≡◌, ℕ, ◌+◌, ◌-◌, ◌%◌, ◌<◌, ◌≤◌, ◌==◌, Bool, true, false, not, Option, Some, None, List, [], ◌∷◌, ◌++◌, refl, sym, ap, ◌∙◌, subst, inl, inr, arith, append_assoc}
use Rattle.std.specs.Prelude.{◌⊎◌, nat_le, nat_lt, if◌then◌else◌}
use Rattle.std.specs.List.{filter}
use Rattle.std.proofs.lemmas.List.{append-nil}
use Rattle.std.proofs.lemmas.Bool.{cases_Bool, leb-true, lt-ltb, le-ltb}
use Rattle.std.proofs.lemmas.Bool.Decides.{nat_tests}
use Rattle.entry_value.specs.declared.cells.Cell.{Cell}
use Rattle.entry_value.specs.declared.word.Word.{Word}
use Rattle.entry_value.specs.Cells.{AreCells, CellMap, IsCell, insert, is_nothing, kept, meets, next, telling, with_cell, with_some, write_one}
use Rattle.entry_value.specs.CellLists.{Each, each_then, some_size}
use Rattle.entry_value.specs.CellWalks.{behind, behind_all, behind_next, behind_none, next_is}
use Rattle.irq_frames.specs.Rewriting.{IsRewritten, with_word}

-- CELLS IN FRONT OF AN ADDRESS, AND FROM ONE ON

abbrev EndsBy : (end : ℕ) → Cell → Type 0
EndsBy end cell = cell.place + cell.size ≤ end

abbrev BeginsAt : (start : ℕ) → Cell → Type 0
BeginsAt start cell = start ≤ cell.place

each_behind : (from : ℕ) (cells : List Cell) → Each (BeginsAt from) (behind from cells)
each_behind from [] = tt
each_behind from (cell ∷ cells) = elim (cases_Bool (nat_le from cell.place)) [
  | inl there ↦ rw there (leb-true from cell.place there, each_behind from cells)
  | inr below ↦ rw below (each_behind from cells)
]

each_append : (P : Cell → Type 0) (cells more : List Cell) → Each P cells → Each P more → Each P (cells ++ more)
each_append P [] more h k = k
each_append P (cell ∷ cells) more h k = (h.0, each_append P cells more h.1 k)

-- an access meets a cell at its own place, and none in front of it or behind it
meets_none : (at size : ℕ) (cell : Cell) → at + size ≤ 65536 → 1 ≤ size
    → (cell.place + cell.size ≤ at) ⊎ (at + size ≤ cell.place) → meets at size cell ≡ false
meets_none at size cell top some apart =
    elim (cases_Bool (size == 2)) [
      | inl two ↦
          let is : size ≡ 2 = grind (arith, nat_tests) in
          let high : (at + 1) % 65536 ≡ at + 1 = omega (arith, top, is) in
          elim apart [ inl ends ↦ grind (arith, nat_tests) | inr begins ↦ grind (arith, nat_tests) ]
      | inr other ↦ elim apart [ inl ends ↦ grind (arith, nat_tests) | inr begins ↦ grind (arith, nat_tests) ]
    ]

no_later : (at size : ℕ) (cells : List Cell) → at + size ≤ 65536 → 1 ≤ size → Each (BeginsAt (at + size)) cells
    → filter (λ cell. not (meets at size cell)) cells ≡ cells
no_later at size [] top some begins = refl
no_later at size (cell ∷ cells) top some begins = rw (meets_none at size cell top some (inr begins.0)) (ap (λ rest. cell ∷ rest) (no_later at size cells top some begins.1))

meets_own : (cell : Cell) → 1 ≤ cell.size → meets cell.place cell.size cell ≡ true
meets_own cell some = grind (arith, nat_tests)

without_one : (cell : Cell) (front back : List Cell) → cell.place + cell.size ≤ 65536 → 1 ≤ cell.size → Each (EndsBy cell.place) front
    → Each (BeginsAt (cell.place + cell.size)) back
    → filter (λ (c : Cell). not (meets cell.place cell.size c)) (front ++ cell ∷ back) ≡ front ++ back
without_one cell [] back top some ends begins = rw (meets_own cell some) (no_later cell.place cell.size back top some begins)
without_one cell (first ∷ front) back top some ends begins =
    rw (meets_none cell.place cell.size first top some (inl ends.0)) (ap (λ rest. first ∷ rest) (without_one cell front back top some ends.1 begins))

insert_first : (cell : Cell) (back : List Cell) → 1 ≤ cell.size → Each (BeginsAt (cell.place + cell.size)) back
    → insert cell back ≡ cell ∷ back
insert_first cell [] some begins = refl
insert_first cell (next_one ∷ back) some begins = rw (lt-ltb cell.place next_one.place (omega (arith, some, begins.0))) refl

insert_between : (cell : Cell) (front back : List Cell) → 1 ≤ cell.size → Each (EndsBy cell.place) front
    → Each (BeginsAt (cell.place + cell.size)) back
    → insert cell (front ++ back) ≡ front ++ cell ∷ back
insert_between cell [] back some ends begins = insert_first cell back some begins
insert_between cell (first ∷ front) back some ends begins =
    let test : nat_lt cell.place first.place ≡ false = le-ltb cell.place first.place (omega (arith, ends.0)) in
    rw test (ap (λ rest. first ∷ rest) (insert_between cell front back some ends.1 begins))

-- ONE CELL

-- one of some cells has become another, or is gone
record IsReplaced (front back : List Cell) (made : Option Cell) (before after : CellMap) : Type 0 where
  lo_is : after.lo ≡ before.lo
  hi_is : after.hi ≡ before.hi
  cells_are : after.cells ≡ (front ++ with_some made []) ++ back

overwritten : (lo hi : ℕ) (front back : List Cell) (cell : Cell) (word : Word) (before : CellMap) → hi < 65536
    → before.lo ≡ lo → before.hi ≡ hi → IsCell lo hi cell
    → before.cells ≡ front ++ cell ∷ back → Each (EndsBy cell.place) front → Each (BeginsAt (cell.place + cell.size)) back
    → IsReplaced front back (telling (with_word cell word)) before (write_one before cell.place cell.size word)
unfolding write_one
overwritten lo hi front back cell word before top lo_is hi_is is at ends begins =
    let some = some_size cell.size is.size in
    let low : lo ≤ cell.place = is.low in
    let high : cell.place + cell.size ≤ hi + 1 = is.high in
    let made : Cell = with_word cell word in
    let left : filter (λ (c : Cell). not (meets cell.place cell.size c)) before.cells ≡ front ++ back =
    ap (filter (λ (c : Cell). not (meets cell.place cell.size c))) at ∙ without_one cell front back (omega (arith, high, top)) some ends begins in
    let put : insert made (front ++ back) ≡ front ++ made ∷ back = insert_between made front back some ends begins in
    let low_test : nat_lt cell.place before.lo ≡ false = le-ltb cell.place before.lo (omega (arith, low, lo_is)) in
    let high_test : nat_lt before.hi (cell.place + cell.size - 1) ≡ false = le-ltb before.hi (cell.place + cell.size - 1) (omega (arith, high, hi_is, some)) in
    let told : with_cell before.lo before.hi made (front ++ back) ≡ (front ++ with_some (telling made) []) ++ back = elim (cases_Bool (is_nothing cell.size word)) [
      | inl nothing ↦ rw (low_test, high_test, nothing, append-nil front) refl
      | inr tells ↦ rw (low_test, high_test, tells) (put ∙ sym (append_assoc front (made ∷ []) back))
    ] in
    record {
      lo_is = refl;
      hi_is = refl;
      cells_are = ap (with_cell before.lo before.hi made) left ∙ told;
    }

replaced : (lo hi : ℕ) (front back : List Cell) (cell : Cell) (made : Option Cell) (before after : CellMap) → hi < 65536
    → before.lo ≡ lo → before.hi ≡ hi → IsCell lo hi cell
    → before.cells ≡ front ++ cell ∷ back → Each (EndsBy cell.place) front → Each (BeginsAt (cell.place + cell.size)) back
    → IsRewritten made cell before after → IsReplaced front back made before after
replaced lo hi front back cell made before after top lo_is hi_is is at ends begins (inl (same, stays)) =
    subst (IsReplaced front back made before) (sym stays) record {
      lo_is = refl;
      hi_is = refl;
      cells_are = at ∙ sym (append_assoc front (cell ∷ []) back) ∙ ap (λ (o : Option Cell). (front ++ with_some o []) ++ back) (sym same);
    }
replaced lo hi front back cell made before after top lo_is hi_is is at ends begins (inr (word, same, written)) =
    subst (λ (o : Option Cell). IsReplaced front back o before after) (sym same)
    (subst (IsReplaced front back (telling (with_word cell word)) before) (sym written)
    (overwritten lo hi front back cell word before top lo_is hi_is is at ends begins))

-- what a cell becomes ends where the cell does
ends_as : (cell : Cell) (made : Option Cell) (before after : CellMap) → IsRewritten made cell before after
    → Each (EndsBy (cell.place + cell.size)) (with_some made [])
ends_as cell made before after (inl (same, stays)) = rw same (omega arith, tt)
ends_as cell made before after (inr (word, same, written)) = rw same (elim (cases_Bool (is_nothing cell.size word)) [
  | inl nothing ↦ rw nothing tt
  | inr tells ↦ rw tells (omega arith, tt)
])

-- ALL OF THEM

with_in_front : (made : Option Cell) (cells : List Cell) → with_some made cells ≡ with_some made [] ++ cells
with_in_front None cells = refl
with_in_front (Some cell) cells = refl

kept_with : (f : Cell → Option Cell) (cells : List Cell) (cell : Cell) → kept f (cells ++ cell ∷ []) ≡ kept f cells ++ with_some (f cell) []
kept_with f [] cell = refl
kept_with f (first ∷ cells) cell =
    ap (with_some (f first)) (kept_with f cells cell)
    ∙ with_in_front (f first) (kept f cells ++ with_some (f cell) [])
    ∙ sym (append_assoc (with_some (f first) []) (kept f cells) (with_some (f cell) []))
    ∙ ap (λ (list : List Cell). list ++ with_some (f cell) []) (sym (with_in_front (f first) (kept f cells)))

-- the cells in front of an address have become what they become, and the others are as they were
pub record IsWalked (f : Cell → Option Cell) (from : ℕ) (held map : CellMap) : Type 0 where
  pub before : List Cell
  pub split : before ++ behind from held.cells ≡ held.cells
  pub lo_is : map.lo ≡ held.lo
  pub hi_is : map.hi ≡ held.hi
  pub made : map.cells ≡ kept f before ++ behind from held.cells
  pub ends : Each (EndsBy from) (kept f before)

pub walk_begins : (f : Cell → Option Cell) (held map : CellMap) → map ≡ held → IsWalked f 0 held map
walk_begins f held map is =
    let all = behind_all held.cells in
    subst (IsWalked f 0 held) (sym is) (record { before = []; split = all; lo_is = refl; hi_is = refl; made = sym all; ends = tt })

pub walk_goes_on : (f : Cell → Option Cell) (from : ℕ) (cell : Cell) (held map after : CellMap) → held.hi < 65536
    → AreCells held.lo held.hi held.lo held.cells
    → next held.cells from ≡ Some cell → IsWalked f from held map → IsRewritten (f cell) cell map after
    → IsWalked f (cell.place + cell.size) held after
walk_goes_on f from cell held map after top are found walked is =
    let one = next_is held.lo held.hi held.lo from held.cells cell are found in
    let rest_is = behind_next held.lo held.hi held.lo from held.cells cell are found in
    let end = cell.place + cell.size in
    let rest = behind end held.cells in
    let front = kept f walked.before in
    let at : map.cells ≡ front ++ cell ∷ rest = walked.made ∙ ap (λ (list : List Cell). front ++ list) rest_is in
    let here = each_then (EndsBy from) (EndsBy cell.place) front (λ c h. omega (arith, h, one.behind)) walked.ends in
    let earlier = each_then (EndsBy from) (EndsBy end) front (λ c h. omega (arith, h, one.behind)) walked.ends in
    let done = replaced held.lo held.hi front rest cell (f cell) map after top walked.lo_is walked.hi_is one.form at here (each_behind end held.cells) is in
    record {
      before = walked.before ++ cell ∷ [];
      split = append_assoc walked.before (cell ∷ []) rest ∙ ap (λ (list : List Cell). walked.before ++ list) (sym rest_is) ∙ walked.split;
      lo_is = done.lo_is ∙ walked.lo_is;
      hi_is = done.hi_is ∙ walked.hi_is;
      made = done.cells_are ∙ ap (λ (list : List Cell). list ++ rest) (sym (kept_with f walked.before cell));
      ends = subst (Each (EndsBy end)) (sym (kept_with f walked.before cell)) (each_append (EndsBy end) front (with_some (f cell) []) earlier (ends_as cell (f cell) map after is));
    }

abbrev map_of : (lo hi : ℕ) → List Cell → CellMap
map_of lo hi cells = record { lo = lo; hi = hi; cells = cells }

pub walk_ends : (f : Cell → Option Cell) (from : ℕ) (held map : CellMap) → IsWalked f from held map → next held.cells from ≡ None
    → map ≡ record { lo = held.lo; hi = held.hi; cells = kept f held.cells }
walk_ends f from held map walked none =
    let nothing = behind_none from held.cells none in
    let whole : walked.before ≡ held.cells = sym (append-nil walked.before) ∙ ap (λ (list : List Cell). walked.before ++ list) (sym nothing) ∙ walked.split in
    let all : map.cells ≡ kept f held.cells =
    walked.made ∙ ap (λ (list : List Cell). kept f walked.before ++ list) nothing ∙ append-nil (kept f walked.before) ∙ ap (kept f) whole in
    let low : map ≡ map_of held.lo map.hi map.cells = ap (λ n. map_of n map.hi map.cells) walked.lo_is in
    let high : map_of held.lo map.hi map.cells ≡ map_of held.lo held.hi map.cells = ap (λ n. map_of held.lo n map.cells) walked.hi_is in
    low ∙ high ∙ ap (map_of held.lo held.hi) all

-- A CELL OF RAM

-- a cell of some RAM is one of the RAM of all addresses
pub anywhere : (lo hi : ℕ) (cell : Cell) → hi < 65536 → IsCell lo hi cell → IsCell 0 65535 cell
anywhere lo hi cell top is =
    let low : 0 ≤ cell.place = omega arith in
    let high : cell.place + cell.size ≤ 65536 = omega (arith, is.high, top) in
    record { size = is.size; low = low; high = high; normal = is.normal; byte = is.byte; says = is.says }

-- the cells that pass a test
pub kept_filter : (test : Cell → Bool) (cells : List Cell) → kept (λ cell. if test cell then Some cell else None) cells ≡ filter test cells
kept_filter test [] = refl
kept_filter test (cell ∷ cells) = elim (cases_Bool (test cell)) [
  | inl passes ↦ rw passes (ap (λ rest. cell ∷ rest) (kept_filter test cells))
  | inr fails ↦ rw fails (kept_filter test cells)
]
