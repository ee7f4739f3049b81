-- Cells that two states have, and cells within others.
use Rattle.std.proofs.Common.{◌≡◌, ℕ, ◌<◌, true, false, Option, None, Some, List, [], ◌∷◌, All, refl, sym, subst, inl, inr}
use Rattle.std.specs.Prelude.{◌==◌}
use Rattle.std.proofs.lemmas.Bool.{cases_Bool, and_parts, eqb-true, eqb-false}
use Rattle.value_set.specs.Form.{Has, IsNormal}
use Rattle.entry_value.specs.declared.word.Word.{Word}
use Rattle.entry_value.specs.declared.cells.Cell.{Cell}
use Rattle.entry_value.specs.Words.{Suspended, HoldsOfWord, word_join, word_widen}
use Rattle.entry_value.specs.Cells.{StandsUnder, IsCell, AreCells, number_at, is_nothing, cell_at, telling, kept, both_of, with_both, join_cells, byte_widened, cell_widened, widen_cells, is_found_within, are_within}
use Rattle.entry_value.proofs.Bytes.{AreBytes}
use Rattle.entry_value.specs.CellLists.{Each, IsAlike, OfSome, StandsAt, each_from, each_in, each_then, each_kept, each_cell, found_at, kept_form}
use Rattle.value_bits.specs.Laws.{BitLaws}
use Rattle.value_set.specs.Laws.{SetLaws}
use Rattle.entry_value.proofs.Reading.{Holds, each_holds}
use Rattle.entry_value.specs.Values.{of_word}
use Rattle.entry_value.proofs.Values.{Covers, Forms, join_covers, widen_covers, byte_covers, within_holds, join_forms, widen_forms, byte_forms}

-- ---- cells that say something

pub of_telling : (P : Cell → Type 0) (cell : Cell) → (is_nothing cell.size cell.word ≡ false → P cell) → OfSome P (telling cell)
of_telling P cell h = elim (cases_Bool (is_nothing cell.size cell.word)) [ inl nothing ↦ rw nothing tt | inr says ↦ rw says (h says) ]

pub of_both : (P : Cell → Type 0) (f : Word → Word → Word) (cell : Cell) (found : Option Word)
    → OfSome (λ word. let c : Cell = record { place = cell.place; size = cell.size; word = f cell.word word } in is_nothing cell.size (f cell.word word) ≡ false → P c) found
    → OfSome P (both_of f cell found)
of_both P f cell None h = tt
of_both P f cell (Some word) h = of_telling P (record { place = cell.place; size = cell.size; word = f cell.word word }) h

pub of_some_then : {A : Type 0} (P Q : A → Type 0) (found : Option A) → ((x : A) → P x → Q x) → OfSome P found → OfSome Q found
of_some_then P Q None f h = tt
of_some_then P Q (Some x) f h = f x h

pub small_number : (ram : ℕ → ℕ) → AreBytes ram → (place size : ℕ) → size ≡ 1 → number_at ram place size < 256
small_number ram bytes place size one = subst (λ (s : ℕ). number_at ram place s < 256) (sym one) (bytes place)

abbrev IsNormalWord : Word → Type 0
IsNormalWord word = IsNormal 65536 word.set

normal_found : (lo hi from : ℕ) (cells : List Cell) → AreCells lo hi from cells → (place size : ℕ)
    → OfSome IsNormalWord (cell_at cells place size)
normal_found lo hi from cells are place size = found_at (λ p s word. IsNormalWord word) cells place size
    (each_then (IsCell lo hi) (λ cell. IsNormalWord cell.word) cells (λ cell is. is.normal) (each_cell lo hi from cells are))

held_stands : (first : Option Suspended) (ram : ℕ → ℕ) → AreBytes ram → (f : Word → Word → Word) (lo hi from : ℕ) (new : List Cell)
    → AreCells lo hi from new → (cell : Cell)
    → Covers first cell.size f → Holds first ram cell → OfSome (StandsAt first ram) (with_both f new cell)
held_stands first ram bytes f lo hi from new are cell covers h = of_both (StandsAt first ram) f cell (cell_at new cell.place cell.size)
    (of_some_then IsNormalWord (λ word. is_nothing cell.size (f cell.word word) ≡ false → HoldsOfWord first (f cell.word word) (number_at ram cell.place cell.size))
    (cell_at new cell.place cell.size)
    (λ word normal says. covers.one cell.word word (number_at ram cell.place cell.size) h.normal normal (small_number ram bytes cell.place cell.size) h.holds)
    (normal_found lo hi from new are cell.place cell.size))

new_stands : (first : Option Suspended) (ram : ℕ → ℕ) → AreBytes ram → (f : Word → Word → Word) (lo hi : ℕ) (new : List Cell)
    → Each (Holds first ram) new → (cell : Cell)
    → Covers first cell.size f → IsCell lo hi cell → OfSome (StandsAt first ram) (with_both f new cell)
new_stands first ram bytes f lo hi new held cell covers is = of_both (StandsAt first ram) f cell (cell_at new cell.place cell.size)
    (of_some_then (λ word. IsNormalWord word × HoldsOfWord first word (number_at ram cell.place cell.size))
    (λ word. is_nothing cell.size (f cell.word word) ≡ false → HoldsOfWord first (f cell.word word) (number_at ram cell.place cell.size))
    (cell_at new cell.place cell.size)
    (λ word h says. covers.other cell.word word (number_at ram cell.place cell.size) is.normal h.0 (small_number ram bytes cell.place cell.size) h.1)
    (found_at (λ p s word. IsNormalWord word × HoldsOfWord first word (number_at ram p s)) new cell.place cell.size
    (each_then (Holds first ram) (λ c. IsNormalWord c.word × HoldsOfWord first c.word (number_at ram c.place c.size)) new (λ c h. (h.normal, h.holds)) held)))

form_stays : (f : Word → Word → Word) (lo hi low high start : ℕ) (new : List Cell) → AreCells low high start new
    → (cell : Cell) → Forms cell.size f
    → IsCell lo hi cell
    → OfSome (IsAlike lo hi cell) (with_both f new cell)
form_stays f lo hi low high start new are cell forms is = of_both (IsAlike lo hi cell) f cell (cell_at new cell.place cell.size)
    (of_some_then (λ word. IsNormalWord word × (cell.size ≡ 1 → (n : ℕ) → Has 65536 word.set n → n < 256))
    (λ word. let c : Cell = record { place = cell.place; size = cell.size; word = f cell.word word } in is_nothing cell.size (f cell.word word) ≡ false → IsAlike lo hi cell c)
    (cell_at new cell.place cell.size)
    (λ word h says. (
      record {
        size = is.size;
        low = is.low;
        high = is.high;
        normal = forms.normal cell.word word is.normal h.0;
        byte = λ one. forms.byte cell.word word is.normal h.0 one (is.byte one) (h.1 one);
        says = says;
      },
      refl,
      refl,
    ))
    (found_at (λ p s word. IsNormalWord word × (s ≡ 1 → (n : ℕ) → Has 65536 word.set n → n < 256)) new cell.place cell.size
    (each_then (IsCell low high) (λ c. IsNormalWord c.word × (c.size ≡ 1 → (n : ℕ) → Has 65536 c.word.set n → n < 256)) new (λ c h. (h.normal, h.byte)) (each_cell low high start new are))))

-- ---- what stands under what is made of each cell

kept_stand : (first : Option Suspended) (ram : ℕ → ℕ) (lo hi from : ℕ) (f : Cell → Option Cell) (held : List Cell)
    → AreCells lo hi from held
    → ((cell : Cell) → Holds first ram cell → OfSome (StandsAt first ram) (f cell)) → StandsUnder first held ram
    → StandsUnder first (kept f held) ram
kept_stand first ram lo hi from f held are step h =
    (h.0, each_in (StandsAt first ram) (kept f held) (each_kept (Holds first ram) (StandsAt first ram) f held step (each_holds first ram lo hi from held are h)))

made_stand : (first : Option Suspended) (ram : ℕ → ℕ) (lo hi from : ℕ) (f : Cell → Option Cell) (held : List Cell)
    → AreCells lo hi from held → AreBytes ram
    → ((cell : Cell) → IsCell lo hi cell → OfSome (StandsAt first ram) (f cell)) → StandsUnder first (kept f held) ram
made_stand first ram lo hi from f held are bytes step =
    (bytes, each_in (StandsAt first ram) (kept f held) (each_kept (IsCell lo hi) (StandsAt first ram) f held step (each_cell lo hi from held are)))

-- ---- joined cells

pub join_covers_held : SetLaws → (first : Option Suspended) (ram : ℕ → ℕ) (lo hi from low high start : ℕ) (held new : List Cell)
    → AreCells lo hi from held → AreCells low high start new
    → StandsUnder first held ram → StandsUnder first (join_cells held new) ram
unfolding join_cells
join_covers_held sets first ram lo hi from low high start held new are others h = kept_stand first ram lo hi from (with_both word_join new) held are
    (λ cell holds. held_stands first ram h.0 word_join low high start new others cell (join_covers sets first cell.size) holds) h

pub join_covers_new : SetLaws → (first : Option Suspended) (ram : ℕ → ℕ) (lo hi from low high start : ℕ) (held new : List Cell)
    → AreCells lo hi from held → AreCells low high start new
    → StandsUnder first new ram → StandsUnder first (join_cells held new) ram
unfolding join_cells
join_covers_new sets first ram lo hi from low high start held new are others h = made_stand first ram lo hi from (with_both word_join new) held are h.0
    (λ cell is. new_stands first ram h.0 word_join lo hi new (each_holds first ram low high start new others h) cell (join_covers sets first cell.size) is)

pub join_form : SetLaws → (lo hi from low high start : ℕ) (held new : List Cell) → AreCells lo hi from held → AreCells low high start new
    → AreCells lo hi from (join_cells held new)
unfolding join_cells
join_form sets lo hi from low high start held new are others = kept_form lo hi from (with_both word_join new) held
    (λ cell is. form_stays word_join lo hi low high start new others cell (join_forms sets cell.size) is) are

-- ---- widened cells

-- a fact of what is made by the widening of the cell's size
pub of_size : (P : Cell → Type 0) (marks : List ℕ) (new : List Cell) (cell : Cell)
    → (cell.size ≡ 1 → OfSome P (with_both (λ h n. byte_widened h n marks) new cell))
    → ((cell.size ≡ 1 → ⊥) → OfSome P (with_both (λ h n. word_widen h n marks) new cell))
    → OfSome P (cell_widened marks new cell)
of_size P marks new cell byte word = elim (cases_Bool (cell.size == 1)) [
  | inl one ↦ rw one (byte (eqb-true cell.size 1 one))
  | inr wide ↦ rw wide (word (eqb-false cell.size 1 wide))
]

pub widen_covers_held : SetLaws → BitLaws
    → (first : Option Suspended) (ram : ℕ → ℕ) (lo hi from low high start : ℕ) (held new : List Cell) (marks : List ℕ)
    → AreCells lo hi from held
    → AreCells low high start new
    → All (λ mark. mark < 65536) marks → StandsUnder first held ram → StandsUnder first (widen_cells held new marks) ram
unfolding widen_cells
widen_covers_held sets bits first ram lo hi from low high start held new marks are others below h = kept_stand first ram lo hi from (cell_widened marks new) held are
    (λ cell holds. of_size (StandsAt first ram) marks new cell
    (λ one. held_stands first ram h.0 (λ a b. byte_widened a b marks) low high start new others cell (byte_covers sets bits first cell.size marks one) holds)
    (λ wide. held_stands first ram h.0 (λ a b. word_widen a b marks) low high start new others cell (widen_covers sets first cell.size marks below) holds))
    h

pub widen_covers_new : SetLaws → BitLaws
    → (first : Option Suspended) (ram : ℕ → ℕ) (lo hi from low high start : ℕ) (held new : List Cell) (marks : List ℕ)
    → AreCells lo hi from held
    → AreCells low high start new
    → All (λ mark. mark < 65536) marks → StandsUnder first new ram → StandsUnder first (widen_cells held new marks) ram
unfolding widen_cells
widen_covers_new sets bits first ram lo hi from low high start held new marks are others below h =
    let all = each_holds first ram low high start new others h in
    made_stand first ram lo hi from (cell_widened marks new) held are h.0
    (λ cell is. of_size (StandsAt first ram) marks new cell
    (λ one. new_stands first ram h.0 (λ a b. byte_widened a b marks) lo hi new all cell (byte_covers sets bits first cell.size marks one) is)
    (λ wide. new_stands first ram h.0 (λ a b. word_widen a b marks) lo hi new all cell (widen_covers sets first cell.size marks below) is))

pub widen_form : SetLaws → BitLaws → (lo hi from low high start : ℕ) (held new : List Cell) (marks : List ℕ) → AreCells lo hi from held
    → AreCells low high start new
    → All (λ mark. mark < 65536) marks → AreCells lo hi from (widen_cells held new marks)
unfolding widen_cells
widen_form sets bits lo hi from low high start held new marks are others below = kept_form lo hi from (cell_widened marks new) held
    (λ cell is. of_size (IsAlike lo hi cell) marks new cell
    (λ one. form_stays (λ a b. byte_widened a b marks) lo hi low high start new others cell (byte_forms sets bits cell.size marks) is)
    (λ wide. form_stays (λ a b. word_widen a b marks) lo hi low high start new others cell (widen_forms sets cell.size marks wide below) is))
    are

-- ---- cells within others

found_within : SetLaws → (first : Option Suspended) (v : ℕ) (found : Option Word) (held : Word) → is_found_within found held ≡ true
    → OfSome (λ word. HoldsOfWord first word v) found → HoldsOfWord first held v
found_within sets first v None held within h = absurd (cc)
found_within sets first v (Some new) held within h = within_holds sets 16 first v (of_word new) (of_word held) within h

each_within : SetLaws → (first : Option Suspended) (ram : ℕ → ℕ) (new held : List Cell) → are_within new held ≡ true
    → Each (StandsAt first ram) new
    → Each (StandsAt first ram) held
each_within sets first ram new [] within h = tt
each_within sets first ram new (cell ∷ cells) within h =
    let parts = and_parts (is_found_within (cell_at new cell.place cell.size) cell.word) (are_within new cells) within in (
      found_within sets first (number_at ram cell.place cell.size) (cell_at new cell.place cell.size) cell.word parts.0
          (found_at (λ place size word. HoldsOfWord first word (number_at ram place size)) new cell.place cell.size h),
      each_within sets first ram new cells parts.1 h,
    )

pub within_covers : SetLaws → (first : Option Suspended) (ram : ℕ → ℕ) (new held : List Cell)
    → are_within new held ≡ true → StandsUnder first new ram
    → StandsUnder first held ram
within_covers sets first ram new held within h =
    (h.0, each_in (StandsAt first ram) held (each_within sets first ram new held within (each_from (StandsAt first ram) new h.1)))
