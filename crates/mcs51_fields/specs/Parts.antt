-- The other parts of a state: bytes with their relations, PSW, cells, and touched ranges.
use Rattle.std.specs.Prelude.{◌≡◌, ◌↔◌, ℕ, ◌==◌, ◌&&◌, ◌||◌, Bool, true, false, Option, None, Some, is_none, List, [], ◌∷◌, length, drop, bit_and, All}
use Rattle.std.specs.List.{AllByRecursion}
use Rattle.std.proofs.Common.{refl, arith}
use Rattle.std.proofs.lemmas.Bool.{and_parts, and_from, false≢true, eqb-true, eq-eqb}
use Rattle.std.proofs.lemmas.List.Elements.{All-from_recursion, recursion_from_All}
use Rattle.entry_value.specs.declared.byte.Byte.{Byte}
use Rattle.entry_value.specs.declared.cells.Cell.{Cell}
use Rattle.entry_value.specs.declared.word.Entry.{Entry}
use Rattle.entry_value.specs.Cells.{AreCells}
use Rattle.value_bits.specs.declared.tri.Tri.{Tri}
use Rattle.value_bits.specs.declared.tri.Tri.TheVariants.{Zero, One, Either}
use Rattle.mcs51_state.specs.declared.status.Status.{Status}
use Rattle.mcs51_state.specs.Forms.{IsByte, IsChipCell, IsOwnByte, IsOwnRelation, IsRelation}
use Rattle.mcs51_state.specs.Places.{is_place, psw_place}
use Rattle.text_fields.specs.Spelling.{Spelling, Avoids}
use Rattle.text_fields.specs.Fields.{IfForm, passing, passing_avoids, with_tail, told_by, told_by_avoids, restated, restated_avoids}
use Rattle.text_fields.specs.Items.{IsItem, passing_item, restated_item, told_item}
use Rattle.value_text.specs.Bits.{bits_field, bits_avoids, bits_item}
use Rattle.value_text.specs.Cells.{AreCellsIn, AreRelated, cells_field}
use Rattle.value_text.specs.Memories.{cells_item}
use Rattle.value_text.specs.Words.{HasRelation, bits_related, bits_related_item, byte_field, byte_item, relation_field}
use Rattle.mcs51_fields.specs.Places.{IsPlace, place_field, places}

-- THE FIELDS

abbrev pub byte_value : (framed : Bool) → Spelling Byte
byte_value framed = restated (byte_field 2 place_field framed) (IsByte framed)

-- the relation of a register with bits that it doesn't hold names the register, has these bits in the AND mask, and none of
-- them in the OR mask
abbrev pub is_own : (place unheld : ℕ) → Option Entry → Bool
is_own place unheld None = true
is_own place unheld (Some entry) = (entry.place == place) && ((bit_and entry.and unheld == unheld) && (bit_and entry.or unheld == 0))

abbrev pub own_value : (place unheld : ℕ) → (framed : Bool) → Spelling Byte
own_value place unheld framed =
    restated (passing (byte_field 2 place_field framed) (λ byte. is_own place unheld byte.entry)) (IsOwnByte framed place unheld)

-- the bits 1 and 0 of PSW may be either
abbrev pub begins_free : List Tri → Bool
begins_free (Either ∷ Either ∷ bits) = true
begins_free _ = false

abbrev pub with_free : List Tri → List Tri
with_free bits = Either ∷ Either ∷ bits

abbrev pub psw_bits : Spelling (List Tri)
psw_bits = restated (told_by (passing (bits_field 8) begins_free) (drop 2) with_free) (λ bits. length bits ≡ 6)

-- there is a relation in an interrupt's frame alone
abbrev pub is_psw_in : Bool → Option Entry → Bool
is_psw_in framed entry = (framed || is_none entry) && is_own psw_place 3 entry

abbrev pub status_of : List Tri × Option Entry → Status
status_of parts = record { bits = parts.0; entry = parts.1 }

abbrev pub status_parts : Status → List Tri × Option Entry
status_parts status = (status.bits, status.entry)

abbrev pub IsStatusIn : Bool → Status → Type 0
IsStatusIn framed status = (length status.bits ≡ 6) × IsOwnRelation framed psw_place 3 status.entry

abbrev pub status_tailed : Spelling (List Tri × Option Entry)
status_tailed = with_tail 64 psw_bits (relation_field 2 place_field)

abbrev pub status_field : (framed : Bool) → Spelling Status
status_field framed = restated (told_by (bits_related 2 place_field psw_bits (is_psw_in framed)) status_of status_parts) (IsStatusIn framed)

-- a cell has one byte
abbrev pub is_chip_cell : Cell → Bool
is_chip_cell cell = cell.size == 1

abbrev pub AreChipCells : (framed : Bool) → List Cell → Type 0
AreChipCells framed cells = AreCells 0 255 0 cells × All (IsChipCell framed) cells

abbrev pub chip_cells : (framed : Bool) → Spelling (List Cell)
chip_cells framed = restated (cells_field 2 place_field framed is_chip_cell 0 255) (AreChipCells framed)

-- BYTES

relation_is : (framed : Bool) (entry : Option Entry) → IsRelation framed entry ↔ HasRelation 2 IsPlace framed entry
relation_is true None = ((λ form. form), (λ form. form))
relation_is false None = ((λ form. form), (λ form. form))
relation_is true (Some entry) = ((λ form. form), (λ form. form))
relation_is false (Some entry) = ((λ form. form), (λ form. form))

plain_item : (framed : Bool) → IsItem (byte_field 2 place_field framed)
plain_item framed = byte_item 2 place_field framed places

pub byte_value_item : (framed : Bool) → IsItem (byte_value framed)
byte_value_item framed =
    restated_item (byte_field 2 place_field framed) (IsByte framed) (λ byte form. (form.normal, (relation_is framed byte.entry).0 form.entry))
    (λ byte form. record { normal = form.0; entry = (relation_is framed byte.entry).1 form.1 }) (plain_item framed)

-- THE REGISTERS' OWN RELATIONS

own_back : (framed : Bool) (place unheld : ℕ) (entry : Option Entry) → is_place place ≡ true → IsOwnRelation framed place unheld entry
    → HasRelation 2 IsPlace framed entry × (is_own place unheld entry ≡ true)
own_back true place unheld None is form = (tt, refl)
own_back false place unheld None is form = (tt, refl)
own_back false place unheld (Some entry) is form = absurd form
own_back true place unheld (Some entry) is form = (
  (rw form.0 is, form.1, form.3),
  and_from (entry.place == place) _ (eq-eqb entry.place place form.0)
      (and_from (bit_and entry.and unheld == unheld) _ (eq-eqb (bit_and entry.and unheld) unheld form.2) (eq-eqb (bit_and entry.or unheld) 0 form.4)),
)

own_only : (framed : Bool) (place unheld : ℕ) (entry : Option Entry) → HasRelation 2 IsPlace framed entry → is_own place unheld entry ≡ true
    → IsOwnRelation framed place unheld entry
own_only true place unheld None form test = tt
own_only false place unheld None form test = tt
own_only false place unheld (Some entry) form test = absurd form
own_only true place unheld (Some entry) form test =
    let one = and_parts (entry.place == place) _ test in
    let two = and_parts (bit_and entry.and unheld == unheld) _ one.1 in
    (eqb-true entry.place place one.0, form.1, eqb-true (bit_and entry.and unheld) unheld two.0, form.2, eqb-true (bit_and entry.or unheld) 0 two.1)

pub own_value_item : (place unheld : ℕ) (framed : Bool) → is_place place ≡ true → IsItem (own_value place unheld framed)
own_value_item place unheld framed is =
    restated_item (passing (byte_field 2 place_field framed) (λ byte. is_own place unheld byte.entry)) (IsOwnByte framed place unheld)
    (λ byte form. let back = own_back framed place unheld byte.entry is form.entry in ((form.normal, back.0), back.1))
    (λ byte form. record { normal = form.0.0; entry = own_only framed place unheld byte.entry form.0.1 form.1 })
    (passing_item (λ byte. is_own place unheld byte.entry) (plain_item framed))

-- PSW

free_again : (bits : List Tri) → begins_free bits ≡ true → with_free (drop 2 bits) ≡ bits
free_again [] test = absurd (false≢true test)
free_again (Zero ∷ bits) test = absurd (false≢true test)
free_again (One ∷ bits) test = absurd (false≢true test)
free_again (Either ∷ []) test = absurd (false≢true test)
free_again (Either ∷ Zero ∷ bits) test = absurd (false≢true test)
free_again (Either ∷ One ∷ bits) test = absurd (false≢true test)
free_again (Either ∷ Either ∷ bits) test = refl

bits_narrow : (bits : List Tri) → length bits ≡ 6 → (told_by (passing (bits_field 8) begins_free) (drop 2) with_free).Form bits
bits_narrow bits long = ((omega (arith, long), refl), refl)

bits_wide : (bits : List Tri) → (told_by (passing (bits_field 8) begins_free) (drop 2) with_free).Form bits → length bits ≡ 6
bits_wide bits form = let long : length (with_free bits) ≡ 8 = form.0.0 in omega (arith, long)

psw_bits_item : IsItem psw_bits
psw_bits_item =
    restated_item (told_by (passing (bits_field 8) begins_free) (drop 2) with_free) (λ bits. length bits ≡ 6) bits_narrow bits_wide
    (told_item (drop 2) with_free (λ bits form. free_again bits form.1) (passing_item begins_free (bits_item 8)))

-- nor have they an at sign
psw_bits_apart : Avoids psw_bits 64
psw_bits_apart =
    restated_avoids (told_by (passing (bits_field 8) begins_free) (drop 2) with_free) (λ bits. length bits ≡ 6) 64 bits_narrow
    (told_by_avoids (passing (bits_field 8) begins_free) (drop 2) with_free 64 (passing_avoids (bits_field 8) begins_free 64 (bits_avoids 8 64 refl)))

psw_back : (framed : Bool) (entry : Option Entry) → IsOwnRelation framed psw_place 3 entry
    → IfForm (relation_field 2 place_field).Form entry × (is_psw_in framed entry ≡ true)
psw_back true None form = (tt, refl)
psw_back false None form = (tt, refl)
psw_back false (Some entry) form = absurd form
psw_back true (Some entry) form =
    let back = own_back true psw_place 3 (Some entry) refl form in (((back.0.0, (back.0.1, back.0.2)), refl), back.1)

psw_only : (framed : Bool) (entry : Option Entry) → IfForm (relation_field 2 place_field).Form entry → is_psw_in framed entry ≡ true
    → IsOwnRelation framed psw_place 3 entry
psw_only true None form test = tt
psw_only false None form test = tt
psw_only false (Some entry) form test = absurd (false≢true test)
psw_only true (Some entry) form test = own_only true psw_place 3 (Some entry) (form.0.0, form.0.1.0, form.0.1.1) test

pub status_item : (framed : Bool) → IsItem (status_field framed)
status_item framed =
    let related = bits_related 2 place_field psw_bits (is_psw_in framed) in
    restated_item (told_by related status_of status_parts) (IsStatusIn framed)
    (λ status form. let back = psw_back framed status.entry form.1 in (((form.0, back.0), back.1), refl))
    (λ status form. (form.0.0.0, psw_only framed status.entry form.0.0.1 form.0.1))
    (told_item status_of status_parts (λ parts form. refl)
    (bits_related_item 2 place_field psw_bits (is_psw_in framed) places psw_bits_item psw_bits_apart))

-- CELLS

related_back : (framed : Bool) (cells : List Cell) → AllByRecursion (IsChipCell framed) cells
    → AreRelated 2 IsPlace framed is_chip_cell cells
related_back framed [] forms = tt
related_back framed (cell ∷ cells) forms =
    ((relation_is framed cell.word.entry).0 forms.0.entry, eq-eqb cell.size 1 forms.0.size, related_back framed cells forms.1)

related_only : (framed : Bool) (cells : List Cell) → AreRelated 2 IsPlace framed is_chip_cell cells
    → AllByRecursion (IsChipCell framed) cells
related_only framed [] related = tt
related_only framed (cell ∷ cells) related =
    (record { size = eqb-true cell.size 1 related.1; entry = (relation_is framed cell.word.entry).1 related.0 }, related_only framed cells related.2)

cells_narrow : (framed : Bool) (cells : List Cell) → AreChipCells framed cells → AreCellsIn 2 IsPlace framed is_chip_cell 0 255 cells
cells_narrow framed cells form = (form.0, related_back framed cells (recursion_from_All (IsChipCell framed) cells form.1))

pub chip_cells_item : (framed : Bool) → IsItem (chip_cells framed)
chip_cells_item framed =
    restated_item (cells_field 2 place_field framed is_chip_cell 0 255) (AreChipCells framed) (cells_narrow framed)
    (λ cells form. (form.0, All-from_recursion (IsChipCell framed) cells (related_only framed cells form.1)))
    (cells_item 2 place_field framed is_chip_cell 0 255 (omega arith) places)
