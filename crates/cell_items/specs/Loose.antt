-- The fields of a state, of which the cells of RAM stand loosely in one.
use Rattle.std.specs.Prelude.{◌≡◌, ℕ, ◌+◌, ◌^◌, ◌<◌, ◌≤◌, ◌==◌, ◌&&◌, ◌||◌, nat_le, not, Bool, true, false, None, Some, List, [], ◌∷◌, ◌++◌, codes, length, map}
use Rattle.std.specs.List.{AllByRecursion, join_with_byte, list_all, slice_split}
use Rattle.std.specs.Str.{bytes_eq}
use Rattle.std.proofs.Common.{refl, sym, ap, ◌∙◌, subst, inl, inr, arith, append_assoc}
use Rattle.std.proofs.lemmas.Bool.{and_from, and_parts, le-leb, not-true}
use Rattle.std.proofs.lemmas.Option.{none-some}
use Rattle.entry_value.specs.declared.cells.Cell.{Cell}
use Rattle.entry_value.specs.declared.word.Word.{Word}
use Rattle.entry_value.specs.Cells.{AreCells}
use Rattle.text_fields.specs.Spelling.{Spelling, Avoids, has_byte, has_byte-both}
use Rattle.text_fields.specs.Numbers.{hex_number, number_avoids}
use Rattle.text_fields.specs.Fields.{behind, beside, beside_avoids, passing_avoids, told_by, told_by_avoids}
use Rattle.text_fields.specs.Fronts.{named_texts}
use Rattle.text_fields.specs.Lists.{split_first, split_none}
use Rattle.state_text.specs.Cells.{are_cells, are_loose, ascend, follows, loose_behind, loose_cell, loose_cell_is_exact, loose_field}
use Rattle.value_text.specs.Cells.{cell_field, cell_of, cell_parts, cells_back, cells_field, cells_text, size_field}
use Rattle.value_text.specs.Memories.{Memory, cells_item, memory_text}
use Rattle.value_text.specs.Ranges.{ranges_text}
use Rattle.value_text.specs.Words.{ArePlaces, word_avoids, word_field, word_is_exact}

-- FIELDS IN FRONT

-- a name that begins with another byte than M, and has no space
abbrev pub is_other_name : List ℕ → Bool
is_other_name [] = false
is_other_name (b ∷ name) = not (b == 77) && not (has_byte 32 (b ∷ name))

other_name : (name rest : List ℕ) → is_other_name name ≡ true → (behind (codes "M=") (name ++ rest) ≡ None) × (has_byte 32 name ≡ false)
other_name [] rest is = absurd (cc)
other_name (b ∷ name) rest is =
    let parts = and_parts (not (b == 77)) (not (has_byte 32 (b ∷ name))) is in
    (rw (not-true (b == 77) parts.0) refl, not-true (has_byte 32 (b ∷ name)) parts.1)

-- one behind its name
pub named_loose : {A : Type 0} (s : Spelling A) (digits : ℕ) (name : List ℕ) → is_other_name name ≡ true → Avoids s 32
    → (a : A) → s.Form a → (rest : List ℕ) → are_loose digits rest ≡ true → are_loose digits ((name ++ s.text a) ++ 32 ∷ rest) ≡ true
named_loose s digits name is apart a form rest loose =
    let other = other_name name (s.text a) is in
    loose_behind digits (name ++ s.text a) rest (has_byte-both 32 name (s.text a) other.1 (apart a form)) other.0 loose

-- one behind each of some names
pub each_loose : {A : Type 0} (s : Spelling A) (digits : ℕ) (names : List (List ℕ)) → list_all is_other_name names ≡ true → Avoids s 32
    → (xs : List A) → AllByRecursion s.Form xs → (rest : List ℕ) → are_loose digits rest ≡ true
    → are_loose digits (named_texts 32 s.text names xs ++ rest) ≡ true
each_loose s digits [] are apart xs forms rest loose = loose
each_loose s digits (name ∷ names) are apart [] forms rest loose = loose
each_loose s digits (name ∷ names) are apart (x ∷ xs) forms rest loose =
    let parts = and_parts (is_other_name name) (list_all is_other_name names) are in
    let behind_so = named_texts 32 s.text names xs in
    subst (λ text. are_loose digits text ≡ true) (sym (append_assoc (name ++ s.text x) (32 ∷ behind_so) rest))
    (named_loose s digits name parts.0 apart x forms.0 (behind_so ++ rest) (each_loose s digits names parts.1 apart xs forms.1 rest loose))

-- CELLS

-- texts with a byte between each two are cut there
cut_texts : {A : Type 0} (s : Spelling A) (at : ℕ) → Avoids s at → (x : A) (xs : List A) → AllByRecursion s.Form (x ∷ xs)
    → slice_split (λ b. b == at) (join_with_byte at (map s.text (x ∷ xs))) ≡ map s.text (x ∷ xs)
cut_texts s at apart x [] forms = split_none at (s.text x) (apart x forms.0)
cut_texts s at apart x (y ∷ xs) forms =
    split_first at (s.text x) (join_with_byte at (map s.text (y ∷ xs))) (apart x forms.0)
    ∙ ap (λ (ts : List (List ℕ)). s.text x ∷ ts) (cut_texts s at apart y xs forms.1)

or_true : (b other : Bool) → other ≡ true → (b || other) ≡ true
or_true true other is = refl
or_true false other is = is

module _ (digits : ℕ) (place : Spelling ℕ) (places : ArePlaces place) (framed : Bool) (test : Cell → Bool) where
  abbrev own : Spelling Cell
  own = cell_field digits place framed test

  abbrev word_so : Word → List ℕ
  word_so = (word_field digits place framed).text

  apart_so : Avoids own 59
  apart_so =
      let at = beside 46 (hex_number digits) size_field in
      let parts = beside 58 at (word_field digits place framed) in
      passing_avoids (told_by parts cell_of cell_parts) test 59 (told_by_avoids parts cell_of cell_parts 59
      (beside_avoids 58 59 at (word_field digits place framed) refl
      (beside_avoids 46 59 (hex_number digits) size_field refl (number_avoids digits 59 refl)
      (passing_avoids (hex_number 1) (λ size. (size == 1) || (size == 2)) 59 (number_avoids 1 59 refl)))
      (word_avoids digits place framed 59 refl places.parted)))

  -- a word has a text
  some_text : (text : List ℕ) (word : Word) → (word_field digits place framed).value text ≡ Some word → 1 ≤ length text
  some_text [] word is = absurd (none-some word is)
  some_text (b ∷ text) word is = omega arith

  cell_read : (cell : Cell) → own.Form cell → (loose_cell digits).value (own.text cell) ≡ Some ((cell.place, cell.size), word_so cell.word)
  cell_read cell form =
      let parts = form.0.0 in
      let again = (word_is_exact digits place framed places.exact places.apart).back cell.word parts.1 in
      (loose_cell_is_exact digits).back ((cell.place, cell.size), word_so cell.word) (parts.0, some_text (word_so cell.word) cell.word again)

  cells_ascend : (lo hi from at : ℕ) → at ≤ from → (cells : List Cell) → AreCells lo hi from cells → AllByRecursion own.Form cells
      → ascend digits at (map own.text cells) ≡ true
  cells_ascend lo hi from at below [] are forms = refl
  cells_ascend lo hi from at below (cell ∷ cells) are forms =
      let texts = map own.text cells in
      let low : from ≤ cell.place = are.1 in
      let next : cell.place + 1 ≤ cell.place + cell.size = elim are.0.size [ inl one ↦ omega (arith, one) | inr two ↦ omega (arith, two) ] in
      ap (λ found. follows at found (λ place_so. ascend digits (place_so + 1) texts)) (cell_read cell forms.0)
      ∙ and_from (nat_le at cell.place) (ascend digits (cell.place + 1) texts) (le-leb at cell.place (omega (arith, below, low)))
      (cells_ascend lo hi (cell.place + cell.size) (cell.place + 1) next cells are.2 forms.1)

  cells_loose : (lo hi : ℕ) (cells : List Cell) → AreCells lo hi lo cells → AllByRecursion own.Form cells
      → are_cells digits (cells_text digits place cells) ≡ true
  cells_loose lo hi [] are forms = refl
  cells_loose lo hi (cell ∷ cells) are forms =
      let text = cells_text digits place (cell ∷ cells) in
      or_true (bytes_eq text (codes "-")) (ascend digits 0 (slice_split (λ b. b == 59) text))
      (ap (ascend digits 0) (cut_texts own 59 apart_so cell cells forms) ∙ cells_ascend lo hi lo 0 (omega arith) (cell ∷ cells) are forms)

  -- the memory of a state whose cells are read again
  pub memory_loose : (lo hi : ℕ) → hi < 16 ^ digits → (memory : Memory)
      → (cells_field digits place framed test lo hi).value (cells_text digits place memory.0) ≡ Some memory.0
      → are_loose digits (memory_text digits place memory) ≡ true
  memory_loose lo hi below memory again =
      let item = cells_item digits place framed test lo hi below places in
      let text = cells_text digits place memory.0 in
      let form = (item.exact.only text memory.0 again).0 in
      let forms = (cells_back digits place framed test lo hi lo below memory.0 form.0 form.1).0 in
      loose_field digits text (codes "T=" ++ ranges_text digits memory.1) (item.no_space memory.0 form) (cells_loose lo hi memory.0 form.0 forms)
