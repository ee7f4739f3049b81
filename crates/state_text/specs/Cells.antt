-- Where the cells of RAM stand in the text of a state, and what the texts of all chips have in common there. Whoever writes the
-- cells of a block of RAM once, and a number in their place in each state that has them, finds them by this, knows the block
-- that each of them is in, and puts them back as they were.
use Rattle.std.specs.Prelude.{◌≡◌, ℕ, ◌+◌, ◌≤◌, ◌==◌, ◌&&◌, ◌||◌, nat_le, Bool, true, false, Option, None, Some, option_map, List, [], ◌∷◌, ◌++◌, codes, length}
use Rattle.std.specs.List.{AllByRecursion, flat_map, join_with_byte, onto_first, slice_split}
use Rattle.std.specs.Str.{bytes_eq}
use Rattle.std.proofs.Common.{refl, sym, ap, ap₂, ◌∙◌, subst, inl, inr, arith, append_assoc}
use Rattle.std.proofs.lemmas.Bool.{cases_Bool}
use Rattle.std.proofs.lemmas.List.{append-nil}
use Rattle.std.proofs.lemmas.List.Splits.{join_with_byte-slice_split, slice_split-cons_no, slice_split-cons_yes}
use Rattle.std.proofs.lemmas.Option.{none-some, same_Some}
use Rattle.text_fields.specs.Spelling.{Spelling, IsExact, Avoids, has_byte, map_only}
use Rattle.text_fields.specs.Numbers.{hex_number, hex_number_is_exact, is_digit, number_avoids}
use Rattle.text_fields.specs.Fields.{behind, behind_only, beside, beside_avoids, beside_is_exact, passing, passing_avoids, passing_is_exact}
use Rattle.text_fields.specs.Lists.{split_first, split_none}

-- THE FIELD

-- what stands in front of the field of the cells, behind its name, and behind the field
abbrev pub Parts : Type 0
Parts = List ℕ × List ℕ × List ℕ

-- the text of which these are the parts
abbrev pub whole : Parts → List ℕ
whole parts = parts.0 ++ (codes "M=" ++ (parts.1 ++ parts.2))

-- the other fields of the text, each behind a space
abbrev pub spaced : List (List ℕ) → List ℕ
spaced fields = flat_map (λ field. 32 ∷ field) fields

-- by what stands behind the name in the first field, if it has the name, and by the parts of the others
abbrev pub parts_by : (field : List ℕ) → (fields : List (List ℕ)) → Option (List ℕ) → Option Parts → Option Parts
parts_by field fields (Some cells) later = Some ([], cells, spaced fields)
parts_by field fields None later = option_map (λ parts. (field ++ 32 ∷ parts.0, parts.1, parts.2)) later

abbrev pub parts_among : (fields : List (List ℕ)) → Option Parts
parts_among [] = None
parts_among (field ∷ fields) = parts_by field fields (behind (codes "M=") field) (parts_among fields)

-- by the first field between spaces that begins with M=, if there is one
abbrev pub cells_in : (text : List ℕ) → Option Parts
cells_in text = parts_among (slice_split (λ b. b == 32) text)

-- THE CELLS

-- one byte or two
abbrev pub size_digit : Spelling ℕ
size_digit = passing (hex_number 1) (λ size. (size == 1) || (size == 2))

abbrev pub unless_empty : List ℕ → Option (List ℕ)
unless_empty [] = None
unless_empty (b ∷ bytes) = Some (b ∷ bytes)

abbrev pub some_bytes : Spelling (List ℕ)
some_bytes = record { text = λ bytes. bytes; value = unless_empty; Form = λ bytes. 1 ≤ length bytes }

-- a place of so many digits, a dot, a size, a colon, and what is known of the cell
abbrev pub loose_cell : (digits : ℕ) → Spelling ((ℕ × ℕ) × List ℕ)
loose_cell digits = beside 58 (beside 46 (hex_number digits) size_digit) some_bytes

abbrev pub follows : (from : ℕ) → Option ((ℕ × ℕ) × List ℕ) → (later : ℕ → Bool) → Bool
follows from None later = false
follows from (Some cell) later = nat_le from cell.0.0 && later cell.0.0

-- the items are cells, whose places ascend from an address on
abbrev pub ascend : (digits from : ℕ) → (items : List (List ℕ)) → Bool
ascend digits from [] = true
ascend digits from (item ∷ items) = follows from ((loose_cell digits).value item) (λ place. ascend digits (place + 1) items)

-- a dash for none, or cells with semicolons between them
abbrev pub are_cells : (digits : ℕ) → (text : List ℕ) → Bool
are_cells digits text = bytes_eq text (codes "-") || ascend digits 0 (slice_split (λ b. b == 59) text)

abbrev pub are_loose_in : (digits : ℕ) → Option Parts → Bool
are_loose_in digits None = true
are_loose_in digits (Some parts) = are_cells digits parts.1

-- the text has no field of cells, or such a one
abbrev pub are_loose : (digits : ℕ) → (text : List ℕ) → Bool
are_loose digits text = are_loose_in digits (cells_in text)

-- LAWS

some_back : (bytes : List ℕ) → 1 ≤ length bytes → unless_empty bytes ≡ Some bytes
some_back [] some = absurd (omega (arith, some))
some_back (b ∷ bytes) some = refl

some_only : (text bytes : List ℕ) → unless_empty text ≡ Some bytes → (1 ≤ length bytes) × (bytes ≡ text)
some_only [] bytes e = absurd (none-some bytes e)
some_only (b ∷ text) bytes e = let same = same_Some (b ∷ text) bytes e in (subst (λ (xs : List ℕ). 1 ≤ length xs) same (omega arith), sym same)

size_is_exact : IsExact size_digit
size_is_exact = passing_is_exact (hex_number 1) (λ size. (size == 1) || (size == 2)) (hex_number_is_exact 1)

place_avoids : (digits at : ℕ) → is_digit at ≡ false → (46 == at) ≡ false → Avoids (beside 46 (hex_number digits) size_digit) at
place_avoids digits at no_digit no_dot =
    beside_avoids 46 at (hex_number digits) size_digit no_dot (number_avoids digits at no_digit)
    (passing_avoids (hex_number 1) (λ size. (size == 1) || (size == 2)) at (number_avoids 1 at no_digit))

pub loose_cell_is_exact : (digits : ℕ) → IsExact (loose_cell digits)
loose_cell_is_exact digits =
    beside_is_exact 58 (beside 46 (hex_number digits) size_digit) some_bytes
    (beside_is_exact 46 (hex_number digits) size_digit (hex_number_is_exact digits) size_is_exact (number_avoids digits 46 refl))
    (record { back = some_back; only = some_only }) (place_avoids digits 58 refl refl)

-- THE PARTS OF A TEXT

abbrev AreFields : List (List ℕ) → Type 0
AreFields fields = AllByRecursion (λ field. has_byte 32 field ≡ false) fields

joined : (field : List ℕ) (fields : List (List ℕ)) → join_with_byte 32 (field ∷ fields) ≡ field ++ spaced fields
joined field [] = sym (append-nil field)
joined field (other ∷ fields) = ap (λ (t : List ℕ). field ++ 32 ∷ t) (joined other fields)

joined_more : (field : List ℕ) (fields : List (List ℕ)) (parts : Parts) → parts_among fields ≡ Some parts
    → join_with_byte 32 (field ∷ fields) ≡ field ++ 32 ∷ join_with_byte 32 fields
joined_more field [] parts e = absurd (none-some parts e)
joined_more field (other ∷ fields) parts e = refl

-- what is shown of the parts of fields, one by one: the first one has the name, or a later one has it
module _ (P : List (List ℕ) → Parts → Type 0)
    (here : (fields : List (List ℕ)) (cells : List ℕ) → P ((codes "M=" ++ cells) ∷ fields) ([], cells, spaced fields))
    (on : (field : List ℕ) (fields : List (List ℕ)) (later : Parts) → behind (codes "M=") field ≡ None → parts_among fields ≡ Some later
    → P fields later → P (field ∷ fields) (field ++ 32 ∷ later.0, later.1, later.2)) where
  found_by : (field : List ℕ) (fields : List (List ℕ)) (parts : Parts) → ((later : Parts) → parts_among fields ≡ Some later → P fields later)
      → (found : Option (List ℕ)) → behind (codes "M=") field ≡ found → parts_by field fields found (parts_among fields) ≡ Some parts
      → P (field ∷ fields) parts
  found_by field fields parts others (Some cells) is e =
      subst (P (field ∷ fields)) (same_Some ([], cells, spaced fields) parts e)
      (subst (λ (f : List ℕ). P (f ∷ fields) ([], cells, spaced fields)) (behind_only (codes "M=") field cells is) (here fields cells))
  found_by field fields parts others None is e =
      map_only _ (parts_among fields) parts e (λ later found same. subst (P (field ∷ fields)) same (on field fields later is found (others later found)))

  of_parts : (fields : List (List ℕ)) (parts : Parts) → parts_among fields ≡ Some parts → P fields parts
  of_parts [] parts e = absurd (none-some parts e)
  of_parts (field ∷ fields) parts e = found_by field fields parts (of_parts fields) (behind (codes "M=") field) refl e

-- a field in front of the others
more_whole : (field : List ℕ) (later : Parts) → whole (field ++ 32 ∷ later.0, later.1, later.2) ≡ field ++ 32 ∷ whole later
more_whole field later = append_assoc field (32 ∷ later.0) (codes "M=" ++ (later.1 ++ later.2))

parts_joined : (fields : List (List ℕ)) (parts : Parts) → parts_among fields ≡ Some parts → join_with_byte 32 fields ≡ whole parts
parts_joined = of_parts (λ fields parts. join_with_byte 32 fields ≡ whole parts)
    (λ fields cells. joined (codes "M=" ++ cells) fields)
    (λ field fields later none found same. joined_more field fields later found ∙ ap (λ (t : List ℕ). field ++ 32 ∷ t) same ∙ sym (more_whole field later))

no_space : (fields : List (List ℕ)) (parts : Parts) → parts_among fields ≡ Some parts → AreFields fields → has_byte 32 parts.1 ≡ false
no_space = of_parts (λ fields parts. AreFields fields → has_byte 32 parts.1 ≡ false) (λ fields cells are. are.0)
    (λ field fields later none found more are. more are.1)

-- the fields with other cells
record Renewed (parts : Parts) : Type 0 where
  others : List (List ℕ)
  are : AreFields others
  found : parts_among others ≡ Some parts

renewed : (new : List ℕ) → has_byte 32 new ≡ false → (fields : List (List ℕ)) (parts : Parts) → parts_among fields ≡ Some parts
    → AreFields fields → Renewed (parts.0, new, parts.2)
renewed new none = of_parts (λ fields parts. AreFields fields → Renewed (parts.0, new, parts.2))
    (λ fields cells are. record { others = (codes "M=" ++ new) ∷ fields; are = (none, are.1); found = refl })
    (λ field fields later other found more are.
    let rest = more are.1 in
    record {
      others = field ∷ rest.others;
      are = (are.0, rest.are);
      found = ap₂ (λ behind_so later_so. parts_by field rest.others behind_so later_so) other rest.found;
    })

onto_fields : (b : ℕ) → (b == 32) ≡ false → (fields : List (List ℕ)) → AreFields fields → AreFields (onto_first b fields)
onto_fields b other [] are = (rw other refl, tt)
onto_fields b other (field ∷ fields) are = (rw other are.0, are.1)

fields_split : (text : List ℕ) → AreFields (slice_split (λ b. b == 32) text)
fields_split [] = (refl, tt)
fields_split (b ∷ text) = elim (cases_Bool (b == 32)) [
  | inl is ↦ subst AreFields (sym (slice_split-cons_yes (λ c. c == 32) b text is)) (refl, fields_split text)
  | inr other ↦ subst AreFields (sym (slice_split-cons_no (λ c. c == 32) b text other)) (onto_fields b other (slice_split (λ c. c == 32) text) (fields_split text))
]

split_joined : (field : List ℕ) (fields : List (List ℕ)) → AreFields (field ∷ fields)
    → slice_split (λ b. b == 32) (join_with_byte 32 (field ∷ fields)) ≡ field ∷ fields
split_joined field [] are = split_none 32 field are.0
split_joined field (other ∷ fields) are =
    split_first 32 field (join_with_byte 32 (other ∷ fields)) are.0 ∙ ap (λ (fs : List (List ℕ)). field ∷ fs) (split_joined other fields are.1)

-- fields that are joined are cut again
cut_again : (fields : List (List ℕ)) (parts : Parts) → parts_among fields ≡ Some parts → AreFields fields
    → slice_split (λ b. b == 32) (join_with_byte 32 fields) ≡ fields
cut_again [] parts e are = absurd (none-some parts e)
cut_again (field ∷ fields) parts e are = split_joined field fields are

-- the parts are those of the text, and the cells have no space
pub cells_are : (text : List ℕ) (parts : Parts) → cells_in text ≡ Some parts → (whole parts ≡ text) × (has_byte 32 parts.1 ≡ false)
cells_are text parts e = (
  sym (parts_joined (slice_split (λ b. b == 32) text) parts e) ∙ join_with_byte-slice_split 32 text,
  no_space (slice_split (λ b. b == 32) text) parts e (fields_split text),
)

-- with others in their place, without a space, the text is cut in the same way
pub cells_again : (text : List ℕ) (parts : Parts) (new : List ℕ) → cells_in text ≡ Some parts → has_byte 32 new ≡ false
    → cells_in (whole (parts.0, new, parts.2)) ≡ Some (parts.0, new, parts.2)
cells_again text parts new e none =
    let with_new : Parts = (parts.0, new, parts.2) in
    let fields = renewed new none (slice_split (λ b. b == 32) text) parts e (fields_split text) in
    ap cells_in (sym (parts_joined fields.others with_new fields.found)) ∙ ap parts_among (cut_again fields.others with_new fields.found fields.are) ∙ fields.found

-- LOOSE TEXTS

behind_loose : (digits : ℕ) (field : List ℕ) (later : Option Parts)
    → are_loose_in digits (option_map (λ parts. (field ++ 32 ∷ parts.0, parts.1, parts.2)) later) ≡ are_loose_in digits later
behind_loose digits field None = refl
behind_loose digits field (Some parts) = refl

-- a field in front that isn't that of the cells
pub loose_behind : (digits : ℕ) (field rest : List ℕ) → has_byte 32 field ≡ false → behind (codes "M=") field ≡ None
    → are_loose digits rest ≡ true → are_loose digits (field ++ 32 ∷ rest) ≡ true
loose_behind digits field rest none other loose =
    ap (λ fields. are_loose_in digits (parts_among fields)) (split_first 32 field rest none)
    ∙ ap (λ found. are_loose_in digits (parts_by field (slice_split (λ b. b == 32) rest) found (cells_in rest))) other
    ∙ behind_loose digits field (cells_in rest) ∙ loose

-- the field of the cells, and what stands behind it
pub loose_field : (digits : ℕ) (cells rest : List ℕ) → has_byte 32 cells ≡ false → are_cells digits cells ≡ true
    → are_loose digits ((codes "M=" ++ cells) ++ 32 ∷ rest) ≡ true
loose_field digits cells rest none are =
    ap (λ fields. are_loose_in digits (parts_among fields)) (split_first 32 (codes "M=" ++ cells) rest none) ∙ are

-- one field that isn't that of the cells
pub loose_alone : (digits : ℕ) (field : List ℕ) → has_byte 32 field ≡ false → behind (codes "M=") field ≡ None
    → are_loose digits field ≡ true
loose_alone digits field none other =
    ap (λ fields. are_loose_in digits (parts_among fields)) (split_none 32 field none)
    ∙ ap (λ found. are_loose_in digits (parts_by field [] found None)) other
