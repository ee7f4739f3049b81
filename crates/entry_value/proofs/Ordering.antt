-- The order of relations, of sets with relations, and of cells: within itself, along two steps, and within joins and widenings.
use Rattle.std.proofs.Common.{◌≡◌, ℕ, ◌+◌, ◌^◌, ◌<◌, ◌≤◌, true, false, Option, None, Some, List, [], ◌∷◌, All, refl, sym, subst, inl, inr, arith}
use Rattle.std.specs.Prelude.{◌==◌, ◌&&◌, ◌⊎◌}
use Rattle.std.proofs.lemmas.Bool.{cases_Bool, and_from, and_parts, eq-eqb, ne_eqb}
use Rattle.value_set.specs.Form.{Has, Includes, IsNormal}
use Rattle.value_set.specs.Joining.{is_within}
use Rattle.entry_value.specs.declared.word.Entry.{Entry}
use Rattle.entry_value.specs.declared.word.Word.{Word}
use Rattle.entry_value.specs.declared.cells.Cell.{Cell}
use Rattle.entry_value.specs.Words.{is_same_entry, common_entry, is_entry_within, word_join, word_widen, word_within}
use Rattle.entry_value.specs.Cells.{IsCell, AreCells, is_nothing, cell_at, both_of, with_both, kept, join_cells, byte_widened, cell_widened, widen_cells, is_found_within, are_within}
use Rattle.entry_value.specs.Values.{IsFormed, Value, all_of_width, is_value_within, of_word, value_joined, value_widened}
use Rattle.entry_value.specs.CellLists.{Each, OfSome, each_both, each_then, each_kept, each_cell, found_at, some_size}
use Rattle.value_bits.specs.Laws.{BitLaws}
use Rattle.value_set.specs.Laws.{AreMarks, SetLaws}
use Rattle.entry_value.proofs.Uniting.{of_telling, of_both, of_some_then, of_size}
use Rattle.entry_value.proofs.Values.{same_entry, byte_held, byte_new}

-- ---- relations

same_itself : (a : Entry) → is_same_entry a a ≡ true
same_itself a = and_from ((a.place == a.place) && (a.and == a.and)) (a.or == a.or)
    (and_from (a.place == a.place) (a.and == a.and) (eq-eqb a.place a.place refl) (eq-eqb a.and a.and refl)) (eq-eqb a.or a.or refl)

pub entry_itself : (a : Option Entry) → is_entry_within a a ≡ true
entry_itself None = refl
entry_itself (Some a) = same_itself a

pub entry_along : (a b c : Option Entry) → is_entry_within a b ≡ true → is_entry_within b c ≡ true → is_entry_within a c ≡ true
entry_along a b None h k = refl
entry_along None None (Some c) h k = k
entry_along None (Some b) (Some c) h k = h
entry_along (Some a) None (Some c) h k = absurd cc
entry_along (Some a) (Some b) (Some c) h k = subst (λ (e : Entry). is_same_entry a e ≡ true) (same_entry b c k) h

pub common_of_first : (a b : Option Entry) → is_entry_within a (common_entry a b) ≡ true
common_of_first None b = refl
common_of_first (Some a) None = refl
common_of_first (Some a) (Some b) = elim (cases_Bool (is_same_entry a b)) [ inl same ↦ rw same (same_itself a) | inr other ↦ rw other refl ]

pub common_of_second : (a b : Option Entry) → is_entry_within b (common_entry a b) ≡ true
common_of_second None b = refl
common_of_second (Some a) None = refl
common_of_second (Some a) (Some b) = elim (cases_Bool (is_same_entry a b)) [
  | inl same ↦ rw same (subst (λ (e : Entry). is_same_entry b e ≡ true) (sym (same_entry a b same)) (same_itself b))
  | inr other ↦ rw other refl
]

pub within_none : (a : Option Entry) → is_entry_within a None ≡ true
within_none a = refl

pub common_is : (a b : Option Entry) → (common_entry a b ≡ None) ⊎ (common_entry a b ≡ a)
common_is None b = inl refl
common_is (Some a) None = inl refl
common_is (Some a) (Some b) = elim (cases_Bool (is_same_entry a b)) [ inl same ↦ inr (rw same refl) | inr other ↦ inl (rw other refl) ]

-- ---- sets with relations

both_within : SetLaws → (width : ℕ) (a b : Value) → Includes (2 ^ width) b.set a.set
    → is_entry_within a.entry b.entry ≡ true → is_value_within width a b ≡ true
both_within sets width a b includes entries =
    and_from (is_within (2 ^ width) a.set b.set) (is_entry_within a.entry b.entry) ((sets.tested (2 ^ width) a.set b.set).1 includes) entries

pub value_along : SetLaws → (width : ℕ) (a b c : Value) → is_value_within width a b ≡ true → is_value_within width b c ≡ true
    → is_value_within width a c ≡ true
value_along sets width a b c h k =
    let m = 2 ^ width in
    let one = and_parts (is_within m a.set b.set) (is_entry_within a.entry b.entry) h in
    let other = and_parts (is_within m b.set c.set) (is_entry_within b.entry c.entry) k in
    both_within sets width a c (λ v has. (sets.tested m b.set c.set).0 other.0 v ((sets.tested m a.set b.set).0 one.0 v has)) (entry_along a.entry b.entry c.entry one.1 other.1)

pub value_itself : SetLaws → (width : ℕ) (a : Value) → is_value_within width a a ≡ true
value_itself sets width a = both_within sets width a a (λ v h. h) (entry_itself a.entry)

pub join_first : SetLaws → (width : ℕ) (a b : Value) → IsFormed width a → IsFormed width b
    → is_value_within width a (value_joined width a b) ≡ true
join_first sets width a b n k = both_within sets width a (value_joined width a b) (sets.join_first (2 ^ width) a.set b.set n k) (common_of_first a.entry b.entry)

pub join_second : SetLaws → (width : ℕ) (a b : Value) → IsFormed width a → IsFormed width b
    → is_value_within width b (value_joined width a b) ≡ true
join_second sets width a b n k = both_within sets width b (value_joined width a b) (sets.join_second (2 ^ width) a.set b.set n k) (common_of_second a.entry b.entry)

pub widen_held : SetLaws → (width : ℕ) (a b : Value) (marks : List ℕ) → IsFormed width a → IsFormed width b → AreMarks (2 ^ width) marks
    → is_value_within width a (value_widened width a b marks) ≡ true
widen_held sets width a b marks n k below =
    both_within sets width a (value_widened width a b marks) (sets.widen_held (2 ^ width) a.set b.set marks n k below) (common_of_first a.entry b.entry)

pub widen_new : SetLaws → (width : ℕ) (a b : Value) (marks : List ℕ) → IsFormed width a → IsFormed width b → AreMarks (2 ^ width) marks
    → is_value_within width b (value_widened width a b marks) ≡ true
widen_new sets width a b marks n k below =
    both_within sets width b (value_widened width a b marks) (sets.widen_new (2 ^ width) a.set b.set marks n k below) (common_of_second a.entry b.entry)

-- within all numbers, without a relation
pub value_whole : SetLaws → (width : ℕ) (a : Value) → IsFormed width a → is_value_within width a (all_of_width width) ≡ true
value_whole sets width a n = both_within sets width a (all_of_width width) (λ v h. sets.whole (2 ^ width) v (sets.below (2 ^ width) v a.set n h)) refl

-- ---- cells that are found

each_behind : (lo hi from low : ℕ) (cells : List Cell) → low ≤ from → AreCells lo hi from cells → Each (λ cell. low ≤ cell.place) cells
each_behind lo hi from low [] h are = tt
each_behind lo hi from low (cell ∷ cells) h are = (omega (arith, are.1), each_behind lo hi (cell.place + cell.size) low cells (omega (arith, are.1)) are.2)

its_own : (cell : Cell) (cells : List Cell) → cell_at (cell ∷ cells) cell.place cell.size ≡ Some cell.word
its_own cell cells = rw (eq-eqb cell.place cell.place refl, eq-eqb cell.size cell.size refl) refl

differs : (place size other : ℕ) → 0 < size → place + size ≤ other → place ≡ other → ⊥
differs place size other some h e = omega arith

anothers : (cell other : Cell) (cells : List Cell) → 0 < cell.size → cell.place + cell.size ≤ other.place
    → cell_at cells other.place other.size ≡ Some other.word
    → cell_at (cell ∷ cells) other.place other.size ≡ Some other.word
anothers cell other cells some behind found = rw (ne_eqb cell.place other.place (differs cell.place cell.size other.place some behind)) found

abbrev IsFoundIn : List Cell → Cell → Type 0
IsFoundIn cells cell = cell_at cells cell.place cell.size ≡ Some cell.word

-- each cell of a form is found at its place
each_found : (lo hi from : ℕ) (cells : List Cell) → AreCells lo hi from cells → Each (IsFoundIn cells) cells
each_found lo hi from [] are = tt
each_found lo hi from (cell ∷ cells) are = (
  its_own cell cells,
  each_then (λ other. (cell.place + cell.size ≤ other.place) × IsFoundIn cells other) (IsFoundIn (cell ∷ cells)) cells
      (λ other h. anothers cell other cells (some_size cell.size are.0.size) h.0 h.1)
      (each_both (λ other. cell.place + cell.size ≤ other.place) (IsFoundIn cells) cells
      (each_behind lo hi (cell.place + cell.size) (cell.place + cell.size) cells (omega arith) are.2)
      (each_found lo hi (cell.place + cell.size) cells are.2)),
)

abbrev IsWithin : List Cell → Cell → Type 0
IsWithin new cell = is_found_within (cell_at new cell.place cell.size) cell.word ≡ true

within_from : (new held : List Cell) → Each (IsWithin new) held → are_within new held ≡ true
within_from new [] h = refl
within_from new (cell ∷ cells) h = and_from (is_found_within (cell_at new cell.place cell.size) cell.word) (are_within new cells) h.0 (within_from new cells h.1)

each_of_within : (new held : List Cell) → are_within new held ≡ true → Each (IsWithin new) held
each_of_within new [] h = tt
each_of_within new (cell ∷ cells) h =
    let parts = and_parts (is_found_within (cell_at new cell.place cell.size) cell.word) (are_within new cells) h in
    (parts.0, each_of_within new cells parts.1)

-- ---- cells within others

found_within : (found : Option Word) (word other : Word) → found ≡ Some word → word_within word other ≡ true
    → is_found_within found other ≡ true
found_within found word other e h = rw e h

pub cells_itself : SetLaws → (lo hi from : ℕ) (cells : List Cell) → AreCells lo hi from cells → are_within cells cells ≡ true
cells_itself sets lo hi from cells are = within_from cells cells
    (each_then (IsFoundIn cells) (IsWithin cells) cells (λ cell found. found_within (cell_at cells cell.place cell.size) cell.word cell.word found (value_itself sets 16 (of_word cell.word))) (each_found lo hi from cells are))

some_along : SetLaws → (found : Option Word) (middle last : Word) → is_found_within found middle ≡ true → word_within middle last ≡ true
    → is_found_within found last ≡ true
some_along sets None middle last h k = h
some_along sets (Some word) middle last h k =
    value_along sets 16 (of_word word) (of_word middle) (of_word last) h k

found_along : SetLaws → (first second : Option Word) (last : Word) → OfSome (λ word. is_found_within first word ≡ true) second
    → is_found_within second last ≡ true
    → is_found_within first last ≡ true
found_along sets first None last h k = absurd cc
found_along sets first (Some middle) last h k = some_along sets first middle last h k

pub cells_along : SetLaws → (a b c : List Cell) → are_within a b ≡ true → are_within b c ≡ true → are_within a c ≡ true
cells_along sets a b c h k = within_from a c
    (each_then (IsWithin b) (IsWithin a) c
    (λ cell within. found_along sets (cell_at a cell.place cell.size) (cell_at b cell.place cell.size) cell.word
    (found_at (λ place size word. is_found_within (cell_at a place size) word ≡ true) b cell.place cell.size (each_of_within a b h)) within)
    (each_of_within b c k))

-- ---- cells that both have

abbrev IsLow : Word → Type 0
IsLow word = (n : ℕ) → Has 65536 word.set n → n < 256

-- two words of a size and a form are within what is made of them
record Above (size : ℕ) (f : Word → Word → Word) : Type 0 where
  one : (a b : Word) → IsNormal 65536 a.set → IsNormal 65536 b.set → (size ≡ 1 → IsLow a) → word_within a (f a b) ≡ true
  other : (a b : Word) → IsNormal 65536 a.set → IsNormal 65536 b.set → (size ≡ 1 → IsLow b) → word_within b (f a b) ≡ true

join_above : SetLaws → (size : ℕ) → Above size word_join
join_above sets size = record {
  one = λ a b n k low. join_first sets 16 (of_word a) (of_word b) n k;
  other = λ a b n k low. join_second sets 16 (of_word a) (of_word b) n k;
}

widen_above : SetLaws → (size : ℕ) (marks : List ℕ) → All (λ mark. mark < 65536) marks → Above size (λ held new. word_widen held new marks)
widen_above sets size marks below = record {
  one = λ a b n k low. widen_held sets 16 (of_word a) (of_word b) marks n k below;
  other = λ a b n k low. widen_new sets 16 (of_word a) (of_word b) marks n k below;
}

byte_above : SetLaws → BitLaws → (size : ℕ) (marks : List ℕ) → size ≡ 1 → Above size (λ held new. byte_widened held new marks)
byte_above sets bits size marks one = record {
  one = λ a b n k low. both_within sets 16 (of_word a) (of_word (byte_widened a b marks))
      (λ v h. byte_held sets bits a b marks v n k (low one v h) h) (common_of_first a.entry b.entry);
  other = λ a b n k low. both_within sets 16 (of_word b) (of_word (byte_widened a b marks))
      (λ v h. byte_new sets bits a b marks v n k (low one v h) h) (common_of_second a.entry b.entry);
}

-- what is known of a word that is found
abbrev IsSized : (size : ℕ) → Word → Type 0
IsSized size word = IsNormal 65536 word.set × (size ≡ 1 → IsLow word)

formed_found : (lo hi from : ℕ) (cells : List Cell) → AreCells lo hi from cells → (place size : ℕ)
    → OfSome (IsSized size) (cell_at cells place size)
formed_found lo hi from cells are place size = found_at (λ p s word. IsSized s word) cells place size
    (each_then (IsCell lo hi) (λ cell. IsSized cell.size cell.word) cells (λ cell is. (is.normal, is.byte)) (each_cell lo hi from cells are))

held_within : (f : Word → Word → Word) (lo hi low high start : ℕ) (held new : List Cell) → AreCells low high start new
    → (cell : Cell) → Above cell.size f
    → IsCell lo hi cell × IsFoundIn held cell → OfSome (IsWithin held) (with_both f new cell)
held_within f lo hi low high start held new are cell above h = of_both (IsWithin held) f cell (cell_at new cell.place cell.size)
    (of_some_then (IsSized cell.size) (λ word. let c : Cell = record { place = cell.place; size = cell.size; word = f cell.word word } in is_nothing cell.size (f cell.word word) ≡ false → IsWithin held c)
    (cell_at new cell.place cell.size)
    (λ word formed says. found_within (cell_at held cell.place cell.size) cell.word (f cell.word word) h.1 (above.one cell.word word h.0.normal formed.0 h.0.byte))
    (formed_found low high start new are cell.place cell.size))

new_is_within : (f : Word → Word → Word) (new : List Cell) (cell : Cell) (found : Option Word) → cell_at new cell.place cell.size ≡ found
    → OfSome (λ word. word_within word (f cell.word word) ≡ true) found → OfSome (IsWithin new) (both_of f cell found)
new_is_within f new cell None e h = tt
new_is_within f new cell (Some word) e h = of_telling (IsWithin new) (record { place = cell.place; size = cell.size; word = f cell.word word })
    (λ says. found_within (cell_at new cell.place cell.size) word (f cell.word word) e h)

new_within : (f : Word → Word → Word) (lo hi low high start : ℕ) (new : List Cell) → AreCells low high start new
    → (cell : Cell) → Above cell.size f
    → IsCell lo hi cell → OfSome (IsWithin new) (with_both f new cell)
new_within f lo hi low high start new are cell above is = new_is_within f new cell (cell_at new cell.place cell.size) refl
    (of_some_then (IsSized cell.size) (λ word. word_within word (f cell.word word) ≡ true) (cell_at new cell.place cell.size)
    (λ word formed. above.other cell.word word is.normal formed.0 formed.1)
    (formed_found low high start new are cell.place cell.size))

each_cell_found : (lo hi from : ℕ) (cells : List Cell) → AreCells lo hi from cells
    → Each (λ cell. IsCell lo hi cell × IsFoundIn cells cell) cells
each_cell_found lo hi from cells are = each_both (IsCell lo hi) (IsFoundIn cells) cells (each_cell lo hi from cells are) (each_found lo hi from cells are)

pub cells_joined_held : SetLaws → (lo hi from low high start : ℕ) (held new : List Cell) → AreCells lo hi from held
    → AreCells low high start new
    → are_within held (join_cells held new) ≡ true
unfolding join_cells
cells_joined_held sets lo hi from low high start held new are others = within_from held (kept (with_both word_join new) held)
    (each_kept (λ cell. IsCell lo hi cell × IsFoundIn held cell) (IsWithin held) (with_both word_join new) held
    (λ cell h. held_within word_join lo hi low high start held new others cell (join_above sets cell.size) h)
    (each_cell_found lo hi from held are))

pub cells_joined_new : SetLaws → (lo hi from low high start : ℕ) (held new : List Cell) → AreCells lo hi from held
    → AreCells low high start new
    → are_within new (join_cells held new) ≡ true
unfolding join_cells
cells_joined_new sets lo hi from low high start held new are others = within_from new (kept (with_both word_join new) held)
    (each_kept (IsCell lo hi) (IsWithin new) (with_both word_join new) held
    (λ cell is. new_within word_join lo hi low high start new others cell (join_above sets cell.size) is)
    (each_cell lo hi from held are))

pub cells_widened_held : SetLaws → BitLaws → (lo hi from low high start : ℕ) (held new : List Cell) (marks : List ℕ)
    → AreCells lo hi from held
    → AreCells low high start new
    → All (λ mark. mark < 65536) marks → are_within held (widen_cells held new marks) ≡ true
unfolding widen_cells
cells_widened_held sets bits lo hi from low high start held new marks are others below = within_from held (kept (cell_widened marks new) held)
    (each_kept (λ cell. IsCell lo hi cell × IsFoundIn held cell) (IsWithin held) (cell_widened marks new) held
    (λ cell h. of_size (IsWithin held) marks new cell
    (λ one. held_within (λ a b. byte_widened a b marks) lo hi low high start held new others cell (byte_above sets bits cell.size marks one) h)
    (λ wide. held_within (λ a b. word_widen a b marks) lo hi low high start held new others cell (widen_above sets cell.size marks below) h))
    (each_cell_found lo hi from held are))

pub cells_widened_new : SetLaws → BitLaws → (lo hi from low high start : ℕ) (held new : List Cell) (marks : List ℕ)
    → AreCells lo hi from held
    → AreCells low high start new
    → All (λ mark. mark < 65536) marks → are_within new (widen_cells held new marks) ≡ true
unfolding widen_cells
cells_widened_new sets bits lo hi from low high start held new marks are others below = within_from new (kept (cell_widened marks new) held)
    (each_kept (IsCell lo hi) (IsWithin new) (cell_widened marks new) held
    (λ cell is. of_size (IsWithin new) marks new cell
    (λ one. new_within (λ a b. byte_widened a b marks) lo hi low high start new others cell (byte_above sets bits cell.size marks one) is)
    (λ wide. new_within (λ a b. word_widen a b marks) lo hi low high start new others cell (widen_above sets cell.size marks below) is))
    (each_cell lo hi from held are))
