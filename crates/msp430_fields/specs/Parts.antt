-- The other parts of a state: an even stack pointer, SR with its relation, cells, and touched ranges.
use Rattle.std.specs.Prelude.{◌≡◌, ◌↔◌, ℕ, ◌%◌, ◌<◌, ◌==◌, ◌&&◌, ◌||◌, nat_lt, if◌then◌else◌, Bool, true, false, Option, None, Some, is_none, List, [], ◌∷◌, length, bit_and, Contains}
use Rattle.std.proofs.Common.{refl, sym, ◌∙◌, inl, inr, arith}
use Rattle.std.proofs.lemmas.Bool.{and_parts, and_from, true≢false, false≢true, eqb-true, eq-eqb, ltb-true, lt-ltb}
use Rattle.entry_value.specs.declared.cells.Cell.{Cell}
use Rattle.entry_value.specs.declared.word.Entry.{Entry}
use Rattle.entry_value.specs.declared.word.Word.{Word}
use Rattle.entry_value.specs.Cells.{AreCells, IsCell}
use Rattle.entry_value.specs.CellLists.{Each, each_from, each_in, each_cell}
use Rattle.value_bits.specs.declared.tri.Tri.{Tri}
use Rattle.value_set.specs.declared.form.Form.{Form}
use Rattle.msp430_state.specs.declared.status.Status.{Status}
use Rattle.msp430_state.specs.Forms.{AreEvenWords, IsChipCell, IsRelation, IsStatusRelation, IsWord}
use Rattle.text_fields.specs.Spelling.{Spelling}
use Rattle.text_fields.specs.Fields.{IfForm, passing, with_tail, told_by, restated}
use Rattle.text_fields.specs.Items.{IsItem, passing_item, restated_item, told_item}
use Rattle.value_text.specs.Bits.{bits_field, bits_avoids, bits_item}
use Rattle.value_text.specs.Cells.{AreCellsIn, AreRelated, cells_field}
use Rattle.value_text.specs.Members.{is_even_set, evens_back, evens_only}
use Rattle.value_text.specs.Memories.{cells_item}
use Rattle.value_text.specs.Sets.{set_field, set_item}
use Rattle.value_text.specs.Words.{HasRelation, bits_related, bits_related_item, relation_field, word_field, word_item}
use Rattle.msp430_fields.specs.Places.{IsPlace, place_field, places}

-- THE FIELDS

-- a set of even words
abbrev pub sp_field : Spelling Form
sp_field = restated (passing (set_field 4) is_even_set) AreEvenWords

-- the relation of SR names SR, has the bits that SR doesn't hold in the AND mask, and none of them in the OR mask
abbrev pub is_own : Option Entry → Bool
is_own None = true
is_own (Some entry) = (entry.place == 2) && ((bit_and entry.and 65024 == 65024) && nat_lt entry.or 512)

-- there is one in an interrupt's frame alone
abbrev pub is_own_in : Bool → Option Entry → Bool
is_own_in framed entry = (framed || is_none entry) && is_own entry

abbrev pub status_of : List Tri × Option Entry → Status
status_of parts = record { bits = parts.0; entry = parts.1 }

abbrev pub status_parts : Status → List Tri × Option Entry
status_parts status = (status.bits, status.entry)

abbrev pub IsStatusIn : Bool → Status → Type 0
IsStatusIn framed status = (length status.bits ≡ 9) × IsStatusRelation framed status.entry

abbrev pub status_tailed : Spelling (List Tri × Option Entry)
status_tailed = with_tail 64 (bits_field 9) (relation_field 4 place_field)

-- the bits 8 to 0 of SR, and perhaps a relation
abbrev pub status_field : (framed : Bool) → Spelling Status
status_field framed =
    restated (told_by (bits_related 4 place_field (bits_field 9) (is_own_in framed)) status_of status_parts) (IsStatusIn framed)

abbrev pub register_value : (framed : Bool) → Spelling Word
register_value framed = restated (word_field 4 place_field framed) (IsWord framed)

-- a cell of two bytes has an even place, and that of one byte has no relation
abbrev pub is_chip_cell : Cell → Bool
is_chip_cell cell = if cell.size == 2 then cell.place % 2 == 0 else is_none cell.word.entry

abbrev pub AreChipCells : (framed : Bool) → (lo hi : ℕ) → List Cell → Type 0
AreChipCells framed lo hi cells = AreCells lo hi lo cells × ((cell : Cell) → Contains cells cell → IsChipCell framed cell)

abbrev pub chip_cells : (framed : Bool) → (lo hi : ℕ) → Spelling (List Cell)
chip_cells framed lo hi = restated (cells_field 4 place_field framed is_chip_cell lo hi) (AreChipCells framed lo hi)

-- RELATIONS

relation_is : (framed : Bool) (entry : Option Entry) → IsRelation framed entry ↔ HasRelation 4 IsPlace framed entry
relation_is true None = ((λ form. form), (λ form. form))
relation_is false None = ((λ form. form), (λ form. form))
relation_is true (Some entry) = ((λ form. form), (λ form. form))
relation_is false (Some entry) = ((λ form. form), (λ form. form))

-- THE STACK POINTER

pub sp_item : IsItem sp_field
sp_item = restated_item (passing (set_field 4) is_even_set) AreEvenWords
    (λ set form. (form.normal, evens_back set form.normal form.even)) (λ set form. record { normal = form.0; even = evens_only set form.1 })
    (passing_item is_even_set (set_item 4 (omega arith)))

-- SR

own_back : (framed : Bool) (entry : Option Entry) → IsStatusRelation framed entry
    → IfForm (relation_field 4 place_field).Form entry × (is_own_in framed entry ≡ true)
own_back true None form = (tt, refl)
own_back false None form = (tt, refl)
own_back false (Some entry) form = absurd form
own_back true (Some entry) form = (
  ((rw form.0 refl, (form.1, omega (arith, form.3))), refl),
  and_from (entry.place == 2) _ (eq-eqb entry.place 2 form.0)
      (and_from (bit_and entry.and 65024 == 65024) _ (eq-eqb (bit_and entry.and 65024) 65024 form.2) (lt-ltb entry.or 512 form.3)),
)

own_only : (framed : Bool) (entry : Option Entry) → IfForm (relation_field 4 place_field).Form entry → is_own_in framed entry ≡ true
    → IsStatusRelation framed entry
own_only true None form test = tt
own_only false None form test = tt
own_only false (Some entry) form test = absurd (false≢true test)
own_only true (Some entry) form test =
    let one = and_parts (entry.place == 2) _ test in
    let two = and_parts (bit_and entry.and 65024 == 65024) _ one.1 in
    (eqb-true entry.place 2 one.0, form.0.1.0, eqb-true (bit_and entry.and 65024) 65024 two.0, ltb-true entry.or 512 two.1)

pub status_item : (framed : Bool) → IsItem (status_field framed)
status_item framed =
    let related = bits_related 4 place_field (bits_field 9) (is_own_in framed) in
    restated_item (told_by related status_of status_parts) (IsStatusIn framed)
    (λ status form. let back = own_back framed status.entry form.1 in (((form.0, back.0), back.1), refl))
    (λ status form. (form.0.0.0, own_only framed status.entry form.0.0.1 form.0.1))
    (told_item status_of status_parts (λ parts form. refl)
    (bits_related_item 4 place_field (bits_field 9) (is_own_in framed) places (bits_item 9) (bits_avoids 9 64 refl)))

-- REGISTERS

pub register_item : (framed : Bool) → IsItem (register_value framed)
register_item framed =
    restated_item (word_field 4 place_field framed) (IsWord framed) (λ word form. (form.normal, (relation_is framed word.entry).0 form.entry))
    (λ word form. record { normal = form.0; entry = (relation_is framed word.entry).1 form.1 }) (word_item 4 place_field framed places)

-- CELLS

none_is : (entry : Option Entry) → is_none entry ≡ true → entry ≡ None
none_is None test = refl
none_is (Some entry) test = absurd (false≢true test)

test_back : (framed : Bool) (cell : Cell) (two : Bool) → (cell.size == 2) ≡ two → (two ≡ false → cell.size ≡ 1) → IsChipCell framed cell
    → is_chip_cell cell ≡ true
test_back framed cell true is other form = rw is (eq-eqb (cell.place % 2) 0 (form.even (eqb-true cell.size 2 is)))
test_back framed cell false is other form = rw (is, form.byte (other refl)) refl

one_byte : (lo hi : ℕ) (cell : Cell) → IsCell lo hi cell → (cell.size == 2) ≡ false → cell.size ≡ 1
one_byte lo hi cell form other = elim form.size [ inl one ↦ one | inr two ↦ absurd (true≢false (sym (eq-eqb cell.size 2 two) ∙ other)) ]

test_only : (framed : Bool) (cell : Cell) → HasRelation 4 IsPlace framed cell.word.entry → is_chip_cell cell ≡ true → IsChipCell framed cell
test_only framed cell relation test = record {
  even = λ two. eqb-true (cell.place % 2) 0 (rw (eq-eqb cell.size 2 two) at test);
  byte = λ one. let other : (cell.size == 2) ≡ false = rw one refl in none_is cell.word.entry (rw other at test);
  entry = (relation_is framed cell.word.entry).1 relation;
}

related_back : (framed : Bool) (lo hi : ℕ) (cells : List Cell) → Each (IsCell lo hi) cells → Each (IsChipCell framed) cells
    → AreRelated 4 IsPlace framed is_chip_cell cells
related_back framed lo hi [] are forms = tt
related_back framed lo hi (cell ∷ cells) are forms = (
  (relation_is framed cell.word.entry).0 forms.0.entry,
  test_back framed cell (cell.size == 2) refl (one_byte lo hi cell are.0) forms.0,
  related_back framed lo hi cells are.1 forms.1,
)

related_only : (framed : Bool) (cells : List Cell) → AreRelated 4 IsPlace framed is_chip_cell cells → Each (IsChipCell framed) cells
related_only framed [] related = tt
related_only framed (cell ∷ cells) related = (test_only framed cell related.0 related.1, related_only framed cells related.2)

cells_narrow : (framed : Bool) (lo hi : ℕ) (cells : List Cell) → AreChipCells framed lo hi cells
    → AreCellsIn 4 IsPlace framed is_chip_cell lo hi cells
cells_narrow framed lo hi cells form =
    (form.0, related_back framed lo hi cells (each_cell lo hi lo cells form.0) (each_from (IsChipCell framed) cells form.1))

pub chip_cells_item : (framed : Bool) (lo hi : ℕ) → hi < 65536 → IsItem (chip_cells framed lo hi)
chip_cells_item framed lo hi top =
    restated_item (cells_field 4 place_field framed is_chip_cell lo hi) (AreChipCells framed lo hi) (cells_narrow framed lo hi)
    (λ cells form. (form.0, each_in (IsChipCell framed) cells (related_only framed cells form.1)))
    (cells_item 4 place_field framed is_chip_cell lo hi top places)
