-- The memory of a state: cells of RAM and touched ranges, each behind its name, with a space between them.
use Rattle.std.specs.Prelude.{◌≡◌, ℕ, ◌^◌, ◌<◌, ◌≤◌, ◌||◌, Bool, true, false, Option, List, [], ◌∷◌, ◌++◌, codes}
use Rattle.std.proofs.Common.{refl}
use Rattle.std.proofs.lemmas.Bool.{true≢false, false≢true}
use Rattle.entry_value.specs.declared.cells.Cell.{Cell}
use Rattle.entry_value.specs.Cells.{CellMap, are_within}
use Rattle.irq_frames.specs.Ranges.{AreRanges, ranges_within}
use Rattle.node_fields.specs.declared.outside.Outside.{Outside}
use Rattle.node_fields.specs.Outside.{or_else, told, unless}
use Rattle.text_fields.specs.Spelling.{Spelling}
use Rattle.text_fields.specs.Fields.{beside, named, passing, restated}
use Rattle.text_fields.specs.Items.{IsItem, IsLine, beside_line, item_line, named_item, passing_item, restated_item}
use Rattle.value_text.specs.Cells.{cells_field, cells_is_exact, cells_avoids, cells_text, map_of}
use Rattle.value_text.specs.Ranges.{ranges_field, ranges_is_exact, ranges_avoids, ranges_text}
use Rattle.value_text.specs.Words.{ArePlaces}

-- THE FIELDS

abbrev pub is_empty : List (ℕ × ℕ) → Bool
is_empty [] = true
is_empty (range ∷ ranges) = false

abbrev pub AreTouched : (framed : Bool) → (lo hi : ℕ) → List (ℕ × ℕ) → Type 0
AreTouched framed lo hi ranges = AreRanges lo hi ranges × (framed ≡ false → ranges ≡ [])

-- touched ranges, of which there are some in an interrupt's frame alone
abbrev pub touched_field : (digits : ℕ) → (framed : Bool) → (lo hi : ℕ) → Spelling (List (ℕ × ℕ))
touched_field digits framed lo hi =
    restated (passing (ranges_field digits lo hi) (λ ranges. framed || is_empty ranges)) (AreTouched framed lo hi)

abbrev pub cells_named : Spelling (List Cell) → Spelling (List Cell)
cells_named cells = named cells (codes "M=")

abbrev pub touched_named : (digits : ℕ) → (framed : Bool) → (lo hi : ℕ) → Spelling (List (ℕ × ℕ))
touched_named digits framed lo hi = named (touched_field digits framed lo hi) (codes "T=")

abbrev pub Memory : Type 0
Memory = List Cell × List (ℕ × ℕ)

abbrev pub memory_field : (digits : ℕ) → Spelling (List Cell) → (framed : Bool) → (lo hi : ℕ) → Spelling Memory
memory_field digits cells framed lo hi = beside 32 (cells_named cells) (touched_named digits framed lo hi)

-- the text of a memory, whatever the frame and the RAM
abbrev pub memory_text : (digits : ℕ) → Spelling ℕ → Memory → List ℕ
memory_text digits place memory = (codes "M=" ++ cells_text digits place memory.0) ++ 32 ∷ (codes "T=" ++ ranges_text digits memory.1)

abbrev pub memory_of : (lo hi : ℕ) → Memory → CellMap × List (ℕ × ℕ)
memory_of lo hi memory = (map_of lo hi memory.0, memory.1)

-- the first of both that isn't within that of another state
abbrev pub memory_outside : (digits : ℕ) → Spelling ℕ → (new held : Memory) → Option Outside
memory_outside digits place new held =
    or_else (unless (are_within new.0 held.0) (told (codes "M") (cells_text digits place) new.0 held.0))
    (unless (ranges_within new.1 held.1) (told (codes "T") (ranges_text digits) new.1 held.1))

-- LAWS

empty_back : (framed : Bool) (ranges : List (ℕ × ℕ)) → (framed ≡ false → ranges ≡ []) → (framed || is_empty ranges) ≡ true
empty_back true ranges none = refl
empty_back false ranges none = rw (none refl) refl

empty_only : (framed : Bool) (ranges : List (ℕ × ℕ)) → (framed || is_empty ranges) ≡ true → framed ≡ false → ranges ≡ []
empty_only framed [] test base = refl
empty_only true (range ∷ ranges) test base = absurd (true≢false base)
empty_only false (range ∷ ranges) test base = absurd (false≢true test)

touched_item : (digits : ℕ) (framed : Bool) (lo hi : ℕ) → 1 ≤ digits → hi < 16 ^ digits → IsItem (touched_field digits framed lo hi)
touched_item digits framed lo hi some below =
    let ranges : IsItem (ranges_field digits lo hi) = record {
      exact = ranges_is_exact digits lo hi some below;
      no_space = ranges_avoids digits lo hi 32 below refl refl refl;
      no_feed = ranges_avoids digits lo hi 10 below refl refl refl;
    } in
    restated_item (passing (ranges_field digits lo hi) (λ ranges. framed || is_empty ranges)) (AreTouched framed lo hi)
    (λ touched form. (form.0, empty_back framed touched form.1)) (λ touched form. (form.0, empty_only framed touched form.1))
    (passing_item (λ ranges. framed || is_empty ranges) ranges)

pub cells_item : (digits : ℕ) (place : Spelling ℕ) (framed : Bool) (test : Cell → Bool) (lo hi : ℕ) → hi < 16 ^ digits → ArePlaces place
    → IsItem (cells_field digits place framed test lo hi)
cells_item digits place framed test lo hi below places = record {
  exact = cells_is_exact digits place framed test lo hi below places.exact places.apart places.parted;
  no_space = cells_avoids digits place framed test lo hi 32 below refl places.no_space;
  no_feed = cells_avoids digits place framed test lo hi 10 below refl places.no_feed;
}

pub memory_line : (digits : ℕ) (cells : Spelling (List Cell)) (framed : Bool) (lo hi : ℕ) → 1 ≤ digits → hi < 16 ^ digits → IsItem cells
    → IsLine (memory_field digits cells framed lo hi)
memory_line digits cells framed lo hi some below item =
    beside_line (named_item (codes "M=") refl refl item) (item_line (named_item (codes "T=") refl refl (touched_item digits framed lo hi some below)))
