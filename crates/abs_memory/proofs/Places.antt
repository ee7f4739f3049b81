-- Cells that ascend, and where a place stands among them.
use Prim.Native.Nat.{zero, suc}
use Rattle.std.proofs.Common.{◌≡◌, ℕ, ◌+◌, ◌<◌, ◌≤◌, refl, sym, ap, subst, ◌∙◌, None, Some, List, [], ◌∷◌, length, get_or, drop, true, false, inl, inr, ◌==◌, ◌||◌, Bool, not, if◌then◌else◌, ltb, arith}
use Rattle.std.specs.List.{filter, slice_get, remove, insert as list_insert}
use Rattle.std.proofs.lemmas.Bool.{cases_lt, cases_Bool, lt-ltb, le-ltb}
use Rattle.std.proofs.lemmas.Bool.Decides.{nat_tests}
use Rattle.std.proofs.lemmas.Option.{none-some, slice_get-get_or, slice_get_past}
use Rattle.entry_value.specs.declared.cells.Cell.{Cell}
use Rattle.value_bits.specs.Sets.{low_set, high_set}
use Rattle.entry_value.specs.Cells.{cell_at, byte_at, has_byte, insert, next}
use Rattle.abs_memory.specs.Finding.{Ascend, places_below}

pub ascend_lower : (from lower : ℕ) (cells : List Cell) → lower ≤ from → Ascend from cells → Ascend lower cells
ascend_lower from lower [] le h = tt
ascend_lower from lower (cell ∷ cells) le (at, some, rest) = (omega arith, some, rest)

pub places_least : (from : ℕ) (cells : List Cell) (j : ℕ) (d : Cell) → Ascend from cells → j < length cells
    → from ≤ (get_or cells j d).place
places_least from [] j d h lt = absurd (omega arith)
places_least from (cell ∷ cells) zero d h lt = h.0
places_least from (cell ∷ cells) (suc j) d (at, some, rest) lt =
    let least = places_least (cell.place + cell.size) cells j d rest (omega arith) in omega arith

pub places_rise : (from : ℕ) (cells : List Cell) → Ascend from cells
    → (i j : ℕ) (d : Cell) → i ≤ j → j < length cells → (get_or cells i d).place ≤ (get_or cells j d).place
places_rise from [] h i j d le lt = absurd (omega arith)
places_rise from (cell ∷ cells) h zero zero d le lt = omega arith
places_rise from (cell ∷ cells) (at, some, rest) zero (suc j) d le lt =
    let least = places_least (cell.place + cell.size) cells j d rest (omega arith) in omega arith
places_rise from (cell ∷ cells) h (suc i) zero d le lt = absurd (omega arith)
places_rise from (cell ∷ cells) (at, some, rest) (suc i) (suc j) d le lt =
    places_rise (cell.place + cell.size) cells rest i j d (omega arith) (omega arith)

-- the cells from a place on ascend from it
pub ascend_from_place : (from at : ℕ) (cells : List Cell) → Ascend from cells → Ascend at (drop (places_below cells at) cells)
ascend_from_place from at [] h = tt
ascend_from_place from at (cell ∷ cells) (le, some, rest) =
    elim (cases_lt cell.place at) [
      | inl lt ↦ rw (lt-ltb cell.place at lt) (ascend_from_place (cell.place + cell.size) at cells rest)
      | inr ge ↦ rw (le-ltb cell.place at ge) (ge, some, rest)
    ]

-- no cell of a place stands in front of it
pub cell_from_place : (cells : List Cell) (at place size : ℕ) → at ≤ place
    → cell_at cells place size ≡ cell_at (drop (places_below cells at) cells) place size
cell_from_place [] at place size le = refl
cell_from_place (cell ∷ cells) at place size le =
    elim (cases_lt cell.place at) [
      | inl lt ↦
          let here : (cell.place == place) ≡ false = grind (arith, nat_tests) in
          rw (lt-ltb cell.place at lt, here) (cell_from_place cells at place size le)
      | inr ge ↦ rw (le-ltb cell.place at ge) refl
    ]

pub no_cell_below : (from : ℕ) (cells : List Cell) (place size : ℕ) → Ascend from cells → place < from → cell_at cells place size ≡ None
no_cell_below from [] place size h lt = refl
no_cell_below from (cell ∷ cells) place size (le, some, rest) lt =
    let others : cell_at cells place size ≡ None = no_cell_below (cell.place + cell.size) cells place size rest (omega arith) in grind (arith, nat_tests)

pub no_byte_below : (from : ℕ) (cells : List Cell) (at : ℕ) → Ascend from cells → at < from → byte_at cells at ≡ None
no_byte_below from [] at h lt = refl
no_byte_below from (cell ∷ cells) at (le, some, rest) lt =
    let others : byte_at cells at ≡ None = no_byte_below (cell.place + cell.size) cells at rest (omega arith) in grind (arith, nat_tests)

pub none_at_front : (from : ℕ) (cells : List Cell) (at : ℕ) → Ascend from cells → places_below cells (at + 1) ≡ 0 → byte_at cells at ≡ None
none_at_front from [] at h e = refl
none_at_front from (cell ∷ cells) at (le, some, rest) e =
    let above : at + 1 ≤ cell.place = grind (arith, nat_tests) in
    no_byte_below cell.place (cell ∷ cells) at (omega arith, some, rest) (omega arith)

from_is_below : (from : ℕ) (cells : List Cell) (at k : ℕ) → Ascend from cells → places_below cells at ≡ suc k → from < at
from_is_below from [] at k h e = absurd (omega arith)
from_is_below from (cell ∷ cells) at k (le, some, rest) e = grind (arith, nat_tests)

pub none_at_last : (from : ℕ) (cells : List Cell) (at k : ℕ) (d : Cell) → Ascend from cells → places_below cells (at + 1) ≡ suc k
    → has_byte (get_or cells k d) at ≡ false → byte_at cells at ≡ None
none_at_last from [] at k d h e other = refl
none_at_last from (cell ∷ cells) at zero d (le, some, rest) e other =
    let behind : places_below cells (at + 1) ≡ 0 = grind (arith, nat_tests) in
    let others : byte_at cells at ≡ None = none_at_front (cell.place + cell.size) cells at rest behind in
    let not_here : has_byte cell at ≡ false = other in
    grind (arith, nat_tests)
none_at_last from (cell ∷ cells) at (suc k) d (le, some, rest) e other =
    let behind : places_below cells (at + 1) ≡ suc k = grind (arith, nat_tests) in
    let others : byte_at cells at ≡ None = none_at_last (cell.place + cell.size) cells at k d rest behind other in
    let ends : cell.place + cell.size < at + 1 = from_is_below (cell.place + cell.size) cells (at + 1) k rest behind in
    grind (arith, nat_tests)

first_not : (first : Cell) (cells : List Cell) (place size : ℕ) → (first.place ≡ place → first.size ≡ size → ⊥)
    → cell_at cells place size ≡ None
    → None ≡ cell_at (first ∷ cells) place size
first_not first cells place size other others = grind (arith, nat_tests)

pub first_alone : (place size : ℕ) (cells : List Cell) (cell : Cell) → Ascend place cells → slice_get cells 0 ≡ Some cell
    → (cell.place ≡ place → cell.size ≡ size → ⊥) → None ≡ cell_at cells place size
first_alone place size [] cell h e other = absurd (none-some cell e)
first_alone place size (first ∷ cells) cell (le, some, rest) e other =
    let same : first ≡ cell = cc in
    let not_first : first.place ≡ place → first.size ≡ size → ⊥ = subst (λ one. one.place ≡ place → one.size ≡ size → ⊥) (sym same) other in
    let others : cell_at cells place size ≡ None = no_cell_below (first.place + first.size) cells place size rest (omega arith) in
    first_not first cells place size not_first others

-- the cells without the one that has a byte
pub no_byte_same : (cells : List Cell) (at : ℕ) → byte_at cells at ≡ None → cells ≡ filter (λ cell. not (has_byte cell at)) cells
no_byte_same [] at e = refl
no_byte_same (cell ∷ cells) at e =
    elim (cases_Bool (has_byte cell at)) [
      | inl here ↦ let clash = rw here at e in cc
      | inr other ↦ rw other (ap (λ rest. cell ∷ rest) (no_byte_same cells at (rw other at e)))
    ]

owner_is_first : (from : ℕ) (cells : List Cell) (at index : ℕ) (cell : Cell) → Ascend (cell.place + cell.size) cells → index < length cells
    → ((d : Cell) → has_byte (get_or cells index d) at ≡ true) → has_byte cell at ≡ false
owner_is_first from cells at index cell h lt owns =
    let least = places_least (cell.place + cell.size) cells index cell h lt in
    let has : has_byte (get_or cells index cell) at ≡ true = owns cell in
    grind (arith, nat_tests)

pub removed : (from : ℕ) (cells : List Cell) (at index : ℕ) → Ascend from cells → index < length cells
    → ((d : Cell) → has_byte (get_or cells index d) at ≡ true) → remove cells index ≡ filter (λ cell. not (has_byte cell at)) cells
removed from [] at index h lt owns = absurd (omega arith)
removed from (cell ∷ cells) at zero (le, some, rest) lt owns =
    let here : has_byte cell at ≡ true = owns cell in
    let ends : at < cell.place + cell.size = grind (arith, nat_tests) in
    rw here (no_byte_same cells at (no_byte_below (cell.place + cell.size) cells at rest ends))
removed from (cell ∷ cells) at (suc index) (le, some, rest) lt owns =
    rw (owner_is_first from cells at index cell rest (omega arith) owns) (ap (λ others. cell ∷ others) (removed (cell.place + cell.size) cells at index rest (omega arith) owns))

-- its byte is what is read
pub byte_of_owner : (from : ℕ) (cells : List Cell) (at index : ℕ) (owner : Cell) → Ascend from cells → index < length cells
    → ((d : Cell) → owner ≡ get_or cells index d) → has_byte owner at ≡ true
    → byte_at cells at ≡ Some (if at == owner.place then low_set owner.word.set else high_set owner.word.set)
byte_of_owner from [] at index owner h lt is has = absurd (omega arith)
byte_of_owner from (cell ∷ cells) at zero owner h lt is has =
    let here : has_byte cell at ≡ true = subst (λ one. has_byte one at ≡ true) (is cell) has in
    rw here (ap (λ one. Some (if at == one.place then low_set one.word.set else high_set one.word.set)) (sym (is cell)))
byte_of_owner from (cell ∷ cells) at (suc index) owner (le, some, rest) lt is has =
    rw (owner_is_first from cells at index cell rest (omega arith) (λ d. subst (λ one. has_byte one at ≡ true) (is d) has))
    (byte_of_owner (cell.place + cell.size) cells at index owner rest (omega arith) is has)

-- an index at which stands the cell that has the byte of an address
abbrev pub Owns : List Cell → (at index : ℕ) → Type 0
Owns cells at index = (index < length cells) × ((d : Cell) → has_byte (get_or cells index d) at ≡ true)

owner_byte : (cells : List Cell) (at index : ℕ) (owner : Cell) → Ascend 0 cells → Owns cells at index
    → ((d : Cell) → owner ≡ get_or cells index d)
    → byte_at cells at ≡ Some (if at == owner.place then low_set owner.word.set else high_set owner.word.set)
owner_byte cells at index owner h owns is =
    byte_of_owner 0 cells at index owner h owns.0 is (subst (λ cell. has_byte cell at ≡ true) (sym (is owner)) (owns.1 owner))

pub low_byte_of : (cells : List Cell) (at index : ℕ) (owner : Cell) → Ascend 0 cells → Owns cells at index
    → ((d : Cell) → owner ≡ get_or cells index d)
    → owner.place ≡ at → Some (low_set owner.word.set) ≡ byte_at cells at
low_byte_of cells at index owner h owns is here =
    let test : (at == owner.place) ≡ true = grind (arith, nat_tests) in
    sym (owner_byte cells at index owner h owns is ∙ rw test refl)

pub high_byte_of : (cells : List Cell) (at index : ℕ) (owner : Cell) → Ascend 0 cells → Owns cells at index
    → ((d : Cell) → owner ≡ get_or cells index d)
    → (owner.place ≡ at → ⊥) → Some (high_set owner.word.set) ≡ byte_at cells at
high_byte_of cells at index owner h owns is other =
    let test : (at == owner.place) ≡ false = grind (arith, nat_tests) in
    sym (owner_byte cells at index owner h owns is ∙ rw test refl)

pub ascend_filter : (from : ℕ) (keeps : Cell → Bool) (cells : List Cell) → Ascend from cells → Ascend from (filter keeps cells)
ascend_filter from keeps [] h = tt
ascend_filter from keeps (cell ∷ cells) (le, some, rest) =
    elim (cases_Bool (keeps cell)) [
      | inl here ↦ rw here (le, some, ascend_filter (cell.place + cell.size) keeps cells rest)
      | inr other ↦ rw other (ascend_filter from keeps cells (ascend_lower (cell.place + cell.size) from cells (omega arith) rest))
    ]

pub filter_both : (one other : Cell → Bool) (cells : List Cell)
    → filter (λ cell. not (other cell)) (filter (λ cell. not (one cell)) cells) ≡ filter (λ cell. not (one cell || other cell)) cells
filter_both one other [] = refl
filter_both one other (cell ∷ cells) =
    elim (cases_Bool (one cell)) [
      | inl here ↦ rw here (filter_both one other cells)
      | inr not_one ↦
          elim (cases_Bool (other cell)) [
            | inl here ↦ rw (not_one, here) (filter_both one other cells)
            | inr not_other ↦ rw (not_one, not_other) (ap (λ rest. cell ∷ rest) (filter_both one other cells))
          ]
    ]

pub inserted : (cell : Cell) (cells : List Cell) → list_insert cells (places_below cells (cell.place + 1)) cell ≡ insert cell cells
inserted cell [] = refl
inserted cell (first ∷ cells) =
    elim (cases_lt cell.place first.place) [
      | inl lt ↦
          let above : ltb first.place (cell.place + 1) ≡ false = le-ltb first.place (cell.place + 1) (omega arith) in
          rw (above, lt-ltb cell.place first.place lt) refl
      | inr ge ↦
          let below : ltb first.place (cell.place + 1) ≡ true = lt-ltb first.place (cell.place + 1) (omega arith) in
          rw (below, le-ltb cell.place first.place ge) (ap (λ rest. first ∷ rest) (inserted cell cells))
    ]

next_is_at : (cells : List Cell) (from : ℕ) → next cells from ≡ slice_get cells (places_below cells from)
next_is_at [] from = refl
next_is_at (cell ∷ cells) from =
    elim (cases_Bool (ltb cell.place from)) [ inl below ↦ rw below (next_is_at cells from) | inr above ↦ rw above refl ]

pub next_is_there : (cells : List Cell) (from : ℕ) (cell : Cell) → places_below cells from < length cells
    → cell ≡ get_or cells (places_below cells from) cell
    → next cells from ≡ Some cell
next_is_there cells from cell lt is = next_is_at cells from ∙ slice_get-get_or cells (places_below cells from) cell lt ∙ ap Some (sym is)

pub next_is_none : (cells : List Cell) (from : ℕ) → places_below cells from ≡ length cells → next cells from ≡ None
next_is_none cells from e = next_is_at cells from ∙ slice_get_past cells (places_below cells from) (omega arith)
