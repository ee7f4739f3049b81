-- What stands in a RAM behind a write.
use Rattle.std.proofs.Common.{◌≡◌, ℕ, ◌+◌, ◌-◌, ◌%◌, ◌<◌, ◌≤◌, true, false, Option, List, [], ◌∷◌, refl, sym, ◌∙◌, subst, inl, inr, arith, nat_lt}
use Rattle.std.specs.Prelude.{◌⊎◌, ◌==◌, ◌&&◌, ◌||◌, nat_le, not}
use Rattle.std.specs.List.{filter}
use Rattle.std.proofs.lemmas.Bool.{cases_Bool, cases_lt, and_from, or_parts, eq-eqb, le-leb, lt-ltb, ltb-true, ltb-false, not-true}
use Rattle.value_set.specs.Form.{Has, IsNormal}
use Rattle.entry_value.specs.declared.word.Word.{Word}
use Rattle.entry_value.specs.declared.cells.Cell.{Cell}
use Rattle.entry_value.specs.Words.{Suspended, HoldsOfWord}
use Rattle.entry_value.specs.Cells.{CellMap, StandsUnder, IsCell, AreCells, number_at, written, has_byte, meets, is_nothing, insert, with_cell, write_one}
use Rattle.entry_value.proofs.Bytes.{IsSize, same_number, written-beyond, written_bytes, written_itself}
use Rattle.entry_value.specs.CellLists.{Each, StandsAt, each_from, each_in, each_both, each_then, each_filter, each_cell, each_with_cell, filtered_form, some_size}
use Rattle.value_set.specs.Laws.{SetLaws}
use Rattle.plain_lemmas.specs.Cases.{clash}
use Rattle.plain_lemmas.specs.Small.{word_alone}

-- ---- accesses that have no byte of a cell

abbrev IsApartFrom : (place size at : ℕ) → Type 0
IsApartFrom place size at = (place ≡ at → ⊥) × (size ≡ 2 → (place + 1) % 65536 ≡ at → ⊥)

-- the number at a place stays where the bytes that are written aren't its own
pub stays : (ram : ℕ → ℕ) (at access v place size : ℕ) → IsSize size → IsApartFrom place size at
    → (access ≡ 2 → IsApartFrom place size ((at + 1) % 65536))
    → number_at (written ram at access v) place size ≡ number_at ram place size
stays ram at access v place size is first second = same_number (written ram at access v) ram place size is
    (written-beyond ram at access v place first.0 (λ two. (second two).0))
    (λ wide. written-beyond ram at access v ((place + 1) % 65536) (first.1 wide) (λ two. (second two).1 wide))

pub whole_turn : (place size hi : ℕ) → size ≡ 2 → place + size ≤ hi + 1 → hi < 65536 → (place + 1) % 65536 ≡ place + 1
whole_turn place size hi two high below = word_alone (place + 1) (omega arith)

its_byte : (cell : Cell) (at : ℕ) → cell.place ≤ at → at < cell.place + cell.size → has_byte cell at ≡ true
its_byte cell at from to = and_from (nat_le cell.place at) (nat_lt at (cell.place + cell.size)) (le-leb cell.place at from) (lt-ltb at (cell.place + cell.size) to)

first_byte : (place at size : ℕ) → 0 < size → place ≡ at → (place ≤ at) × (at < place + size)
first_byte place at size some e = (omega arith, omega arith)

second_byte : (place at size : ℕ) → size ≡ 2 → place + 1 ≡ at → (place ≤ at) × (at < place + size)
second_byte place at size two e = (omega arith, omega arith)

unmet : (lo hi at : ℕ) (cell : Cell) → hi < 65536 → IsCell lo hi cell → has_byte cell at ≡ false → IsApartFrom cell.place cell.size at
unmet lo hi at cell below is apart = (
  (λ e. let b = first_byte cell.place at cell.size (some_size cell.size is.size) e in clash (has_byte cell at) (its_byte cell at b.0 b.1) apart),
  (λ two e. let b = second_byte cell.place at cell.size two (sym (whole_turn cell.place cell.size hi two is.high below) ∙ e) in
      clash (has_byte cell at) (its_byte cell at b.0 b.1) apart),
)

-- an access that doesn't meet a cell
abbrev IsUnmet : (at size : ℕ) → Cell → Type 0
IsUnmet at size cell = (has_byte cell at ≡ false) × (size ≡ 2 → has_byte cell ((at + 1) % 65536) ≡ false)

unmet_from : (at size : ℕ) (cell : Cell) → not (meets at size cell) ≡ true → IsUnmet at size cell
unmet_from at size cell h =
    let parts = or_parts (has_byte cell at) ((size == 2) && has_byte cell ((at + 1) % 65536)) (not-true (meets at size cell) h) in (
      parts.0,
      λ two. elim (cases_Bool (has_byte cell ((at + 1) % 65536))) [
        | inl has ↦ absurd (clash ((size == 2) && has_byte cell ((at + 1) % 65536)) (and_from (size == 2) (has_byte cell ((at + 1) % 65536)) (eq-eqb size 2 two) has) parts.1)
        | inr apart ↦ apart
      ],
    )

-- ---- a write at one address

still_stands : (first : Option Suspended) (ram : ℕ → ℕ) (lo hi at size v : ℕ) → hi < 65536 → (cell : Cell)
    → (StandsAt first ram cell × IsCell lo hi cell) × (not (meets at size cell) ≡ true) → StandsAt first (written ram at size v) cell
still_stands first ram lo hi at size v below cell h =
    let apart = unmet_from at size cell h.1 in let is = h.0.1 in
    subst (λ (n : ℕ). HoldsOfWord first cell.word n)
    (sym (stays ram at size v cell.place cell.size is.size (unmet lo hi at cell below is apart.0) (λ two. unmet lo hi ((at + 1) % 65536) cell below is (apart.1 two))))
    h.0.0

pub one_covers : SetLaws → (first : Option Suspended) (ram : ℕ → ℕ) (from at size v : ℕ) (map : CellMap) (word : Word) → map.hi < 65536
    → AreCells map.lo map.hi from map.cells
    → at < 65536 → IsSize size → IsNormal 65536 word.set → (size ≡ 1 → (n : ℕ) → Has 65536 word.set n → n < 256)
    → StandsUnder first map.cells ram → HoldsOfWord first word v
    → StandsUnder first (write_one map at size word).cells (written ram at size v)
unfolding write_one
one_covers sets first ram from at size v map word below are low is normal byte stands holds =
    let cell : Cell = record { place = at; size = size; word = word } in
    let rest = filter (λ c. not (meets at size c)) map.cells in
    let old = each_both (StandsAt first ram) (IsCell map.lo map.hi) map.cells (each_from (StandsAt first ram) map.cells stands.1) (each_cell map.lo map.hi from map.cells are) in
    let kept_ones = each_then (λ c. (StandsAt first ram c × IsCell map.lo map.hi c) × (not (meets at size c) ≡ true)) (StandsAt first (written ram at size v)) rest
    (still_stands first ram map.lo map.hi at size v below)
    (each_filter (λ c. StandsAt first ram c × IsCell map.lo map.hi c) (λ c. not (meets at size c)) map.cells old) in
    let own : StandsAt first (written ram at size v) cell = subst (λ (n : ℕ). HoldsOfWord first word n) (sym (written_itself ram at size v low is (λ one. byte one v holds.0))) holds in (
      written_bytes ram at size v stands.0 (sets.below 65536 v word.set normal holds.0),
      each_in (StandsAt first (written ram at size v)) (with_cell map.lo map.hi cell rest) (each_with_cell (StandsAt first (written ram at size v)) map.lo map.hi cell rest own kept_ones),
    )

-- ---- its form

abbrev AreApart : Cell → Cell → Type 0
AreApart cell other = (other.place + other.size ≤ cell.place) ⊎ (cell.place + cell.size ≤ other.place)

behind_it : (place size other other_size : ℕ) → 0 < other_size → place < other
    → (other + other_size ≤ place) ⊎ (place + size ≤ other) → place + size ≤ other
behind_it place size other other_size some h (inl k) = absurd (omega arith)
behind_it place size other other_size some h (inr k) = k

before_it : (place size other other_size : ℕ) → 0 < size → other ≤ place
    → (other + other_size ≤ place) ⊎ (place + size ≤ other) → other + other_size ≤ place
before_it place size other other_size some h (inl k) = k
before_it place size other other_size some h (inr k) = absurd (omega arith)

inserted_form : (lo hi from : ℕ) (cell : Cell) (cells : List Cell) → IsCell lo hi cell → from ≤ cell.place → AreCells lo hi from cells
    → Each (AreApart cell) cells
    → AreCells lo hi from (insert cell cells)
inserted_form lo hi from cell [] is h are apart = (is, h, tt)
inserted_form lo hi from cell (c ∷ cells) is h are apart = elim (cases_Bool (nat_lt cell.place c.place)) [
  | inl before ↦ rw before (
    is,
    h,
    (are.0, behind_it cell.place cell.size c.place c.size (some_size c.size are.0.size) (ltb-true cell.place c.place before) apart.0, are.2),
  )
  | inr behind ↦ rw behind (
    are.0,
    are.1,
    inserted_form lo hi (c.place + c.size) cell cells is
        (before_it cell.place cell.size c.place c.size (some_size cell.size is.size) (ltb-false cell.place c.place behind) apart.0) are.2 apart.1,
  )
]

-- bytes that aren't an access's own stand before it or behind it
apart_numbers : (at size place its_size : ℕ) → IsSize size → 0 < its_size → (place ≤ at → at < place + its_size → ⊥)
    → (size ≡ 2 → place ≤ at + 1 → at + 1 < place + its_size → ⊥)
    → (place + its_size ≤ at) ⊎ (at + size ≤ place)
apart_numbers at size place its_size is some first second = elim (cases_lt at place) [
  | inr from ↦ inl (elim (cases_lt at (place + its_size)) [ inl to ↦ absurd (first from to) | inr beyond ↦ beyond ])
  | inl before ↦ inr (elim is [
    | inl one ↦ omega arith
    | inr two ↦ elim (cases_lt (at + 1) place) [ inl more ↦ omega arith | inr from ↦ absurd (second two from (omega arith)) ]
  ])
]

cells_apart : (at size hi : ℕ) (word : Word) (other : Cell) → hi < 65536 → IsSize size → at + size ≤ hi + 1 → IsSize other.size
    → not (meets at size other) ≡ true
    → AreApart (record { place = at; size = size; word = word }) other
cells_apart at size hi word other below is high its h =
    let apart = unmet_from at size other h in
    apart_numbers at size other.place other.size is (some_size other.size its)
    (λ from to. clash (has_byte other at) (its_byte other at from to) apart.0)
    (λ two from to. let turn = whole_turn at size hi two high below in
    clash (has_byte other (at + 1)) (its_byte other (at + 1) from to) (subst (λ (n : ℕ). has_byte other n ≡ false) turn (apart.1 two)))

high_from : (place size hi : ℕ) → place + size - 1 ≤ hi → place + size ≤ hi + 1
high_from place size hi h = omega arith

with_form : (lo hi from at size : ℕ) (word : Word) (cells : List Cell) → hi < 65536 → from ≤ lo → IsSize size → IsNormal 65536 word.set
    → (size ≡ 1 → (n : ℕ) → Has 65536 word.set n → n < 256) → AreCells lo hi from cells
    → AreCells lo hi from (with_cell lo hi (record { place = at; size = size; word = word }) (filter (λ c. not (meets at size c)) cells))
with_form lo hi from at size word cells below first is normal byte are =
    let cell : Cell = record { place = at; size = size; word = word } in
    let rest = filter (λ c. not (meets at size c)) cells in
    let held : AreCells lo hi from rest = filtered_form lo hi from (λ c. not (meets at size c)) cells are in
    elim (cases_Bool (nat_lt at lo || nat_lt hi (at + size - 1) || is_nothing size word)) [
      | inl left_out ↦ rw left_out held
      | inr put ↦
          let parts = or_parts (nat_lt at lo || nat_lt hi (at + size - 1)) (is_nothing size word) put in
          let bounds = or_parts (nat_lt at lo) (nat_lt hi (at + size - 1)) parts.0 in
          let low : lo ≤ at = ltb-false at lo bounds.0 in
          let high : at + size ≤ hi + 1 = high_from at size hi (ltb-false hi (at + size - 1) bounds.1) in
          let formed : IsCell lo hi cell = record { size = is; low = low; high = high; normal = normal; byte = byte; says = parts.1 } in
          rw put (inserted_form lo hi from cell rest formed (omega arith) held
          (each_then (λ c. IsCell lo hi c × (not (meets at size c) ≡ true)) (AreApart cell) rest
          (λ c h. cells_apart at size hi word c below is high h.0.size h.1)
          (each_filter (IsCell lo hi) (λ c. not (meets at size c)) cells (each_cell lo hi from cells are))))
    ]

pub one_form : (from at size : ℕ) (map : CellMap) (word : Word) → map.hi < 65536 → from ≤ map.lo
    → AreCells map.lo map.hi from map.cells → IsSize size
    → IsNormal 65536 word.set
    → (size ≡ 1 → (n : ℕ) → Has 65536 word.set n → n < 256) → AreCells map.lo map.hi from (write_one map at size word).cells
unfolding write_one
one_form from at size map word below first are is normal byte = with_form map.lo map.hi from at size word map.cells below first is normal byte are

pub one_lo : (at size : ℕ) (map : CellMap) (word : Word) → (write_one map at size word).lo ≡ map.lo
unfolding write_one
one_lo at size map word = refl

pub one_hi : (at size : ℕ) (map : CellMap) (word : Word) → (write_one map at size word).hi ≡ map.hi
unfolding write_one
one_hi at size map word = refl
