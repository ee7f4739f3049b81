-- Which cells a write meets, page by page.
use Rattle.std.proofs.Common.{◌≡◌, ℕ, ◌+◌, ◌-◌, ◌/◌, ◌%◌, ◌<◌, ◌≤◌, refl, sym, ap, ◌∙◌, Bool, true, false, Some, List, inl, inr, arith}
use Rattle.std.specs.Prelude.{◌⊎◌, ◌≢◌, ◌==◌, ◌&&◌, ◌||◌, not, nat_le, nat_lt}
use Rattle.std.specs.List.{filter}
use Rattle.std.specs.Option.{is_some}
use Rattle.std.proofs.lemmas.Bool.{cases_Bool, cases_eq, leb-true, ltb-true, eq-eqb, ne_eqb, and_parts, and_from, and_left, and_right, or_parts, or_from, or_left, or_right, false_from_ne_true, both_ways}
use Rattle.entry_value.specs.declared.cells.Cell.{Cell}
use Rattle.entry_value.specs.CellLists.{each_both, each_then, each_cell}
use Rattle.entry_value.specs.Cells.{AreCells, IsCell, has_byte, is_nothing, meets, unknown, with_cell}
use Rattle.value_bits.specs.Sets.{high_set}
use Rattle.abs_pages.specs.Paging.{begun_at, high_of, is_met_beside, is_left_out, stays, with_written}
use Rattle.abs_pages.proofs.Begun.{Begins, each_begins}
use Rattle.abs_pages.proofs.Lists.{filter_same, filter_twice}
use Rattle.abs_pages.proofs.Putting.{unmet}

has_is : (one : Cell) (at : ℕ) → has_byte one at ≡ true → (one.place ≤ at) × (at < one.place + one.size)
has_is one at h =
    let parts = and_parts (nat_le one.place at) (nat_lt at (one.place + one.size)) h in
    (leb-true one.place at parts.0, ltb-true at (one.place + one.size) parts.1)

-- such a cell begins at the address or in front of it
begins : (one : Cell) (at : ℕ) → (one.size ≡ 1) ⊎ (one.size ≡ 2) → has_byte one at ≡ true → (one.place ≡ at) ⊎ (one.place + 1 ≡ at)
begins one at size h =
    let is = has_is one at h in
    elim (cases_eq one.place at) [
      | inl here ↦ inl here
      | inr other ↦ inr (elim size [ inl one_byte ↦ omega (arith, one_byte, is.0, is.1, other) | inr two ↦ omega (arith, two, is.0, is.1, other) ])
    ]

high_of_two : (one : Cell) → one.size ≡ 2 → high_of (Some (one.size, one.word)) ≡ Some (high_set one.word.set)
high_of_two one two = rw two refl

abbrev pub next_address : ℕ → ℕ
next_address at = (at + 1) % 65536

next_below : (at : ℕ) → at < 65536 → at % 32 ≢ 31 → next_address at ≡ at + 1
next_below at lt other = omega (arith, lt, other)

-- where no cell reaches over the edge, no other page's cells are met
front_away : (cells : List Cell) (at : ℕ) (one : Cell) → (one.size ≡ 1) ⊎ (one.size ≡ 2) → Begins cells one
    → ((at % 32 == 0) && is_some (high_of (begun_at cells (at - 1)))) ≡ false → (one.place / 32 ≡ at / 32 → ⊥) → has_byte one at ≡ false
front_away cells at one size begun none other =
    false_from_ne_true (has_byte one at) (λ has. elim (begins one at size has) [
      | inl here ↦ other (ap (λ (n : ℕ). n / 32) here)
      | inr front ↦
          let edge : at % 32 ≡ 0 = omega (arith, front, other) in
          let is = has_is one at has in
          let two : one.size ≡ 2 = elim size [ inl single ↦ absurd (omega (arith, single, front, is.1)) | inr double ↦ double ] in
          let place : at - 1 ≡ one.place = omega (arith, front) in
          let high : high_of (begun_at cells (at - 1)) ≡ Some (high_set one.word.set) =
          ap (λ (n : ℕ). high_of (begun_at cells n)) place ∙ (ap high_of begun ∙ high_of_two one two) in
          both_ways ((at % 32 == 0) && is_some (high_of (begun_at cells (at - 1)))) none
          (and_from (at % 32 == 0) (is_some (high_of (begun_at cells (at - 1)))) (eq-eqb (at % 32) 0 edge) (ap is_some high))
    ])

behind_away : (cells : List Cell) (at : ℕ) (one : Cell) → at < 65536 → (one.size ≡ 1) ⊎ (one.size ≡ 2) → Begins cells one
    → ((at % 32 == 31) && is_some (begun_at cells (next_address at))) ≡ false → (one.place / 32 ≡ at / 32 → ⊥)
    → has_byte one (next_address at) ≡ false
behind_away cells at one lt size begun none other =
    false_from_ne_true (has_byte one (next_address at)) (λ has. elim (begins one (next_address at) size has) [
      | inl here ↦ elim (cases_eq (at % 32) 31) [
        | inl last ↦
            let found : is_some (begun_at cells (next_address at)) ≡ true = ap is_some (ap (begun_at cells) (sym here) ∙ begun) in
            both_ways ((at % 32 == 31) && is_some (begun_at cells (next_address at))) none
            (and_from (at % 32 == 31) (is_some (begun_at cells (next_address at))) (eq-eqb (at % 32) 31 last) found)
        | inr inner ↦ other (omega (arith, here, next_below at lt inner, inner))
      ]
      | inr front ↦ other (omega (arith, front, lt))
    ])

away : (lo hi : ℕ) (cells : List Cell) (cell one : Cell) → cell.place < 65536
    → is_met_beside cells cell.place cell.size ≡ false → IsCell lo hi one → Begins cells one
    → (one.place / 32 ≡ cell.place / 32 → ⊥) → meets cell.place cell.size one ≡ false
away lo hi cells cell one lt inner is begun other =
    let at = cell.place in
    let front = (at % 32 == 0) && is_some (high_of (begun_at cells (at - 1))) in
    let last = (at % 32 == 31) in
    let found = is_some (begun_at cells (next_address at)) in
    let edges = or_parts front ((cell.size == 2) && (last && found)) inner in
    or_from (has_byte one at) ((cell.size == 2) && has_byte one (next_address at))
    (front_away cells at one is.size begun edges.0 other)
    (elim (cases_Bool (cell.size == 2)) [
      | inr one_byte ↦ and_left (cell.size == 2) (has_byte one (next_address at)) one_byte
      | inl two ↦
          let none : (last && found) ≡ false = rw two at edges.1 in
          and_right (cell.size == 2) (has_byte one (next_address at)) (behind_away cells at one lt is.size begun none other)
    ])

stays_inner : (lo hi : ℕ) (cells : List Cell) (cell one : Cell) → cell.place < 65536 → is_met_beside cells cell.place cell.size ≡ false
    → IsCell lo hi one → Begins cells one → stays (cell.place / 32) cell one ≡ unmet cell one
stays_inner lo hi cells cell one lt inner is begun = elim (cases_eq (one.place / 32) (cell.place / 32)) [
  | inl same ↦ rw (eq-eqb (one.place / 32) (cell.place / 32) same) refl
  | inr other ↦ rw (ne_eqb (one.place / 32) (cell.place / 32) other, away lo hi cells cell one lt inner is begun other) refl
]

pub inner_written : (lo hi from : ℕ) (cell : Cell) (old new : List Cell) → cell.place < 65536
    → is_met_beside old cell.place cell.size ≡ false → AreCells lo hi from old
    → new ≡ with_cell lo hi cell (filter (stays (cell.place / 32) cell) old) → new ≡ with_written lo hi cell old
inner_written lo hi from cell old new lt inner are put =
    put ∙ ap (with_cell lo hi cell)
    (filter_same (stays (cell.place / 32) cell) (unmet cell) old
    (each_then (λ one. IsCell lo hi one × Begins old one) (λ one. stays (cell.place / 32) cell one ≡ unmet cell one) old
    (λ one is. stays_inner lo hi old cell one lt inner is.0 is.1)
    (each_both (IsCell lo hi) (Begins old) old (each_cell lo hi from old are) (each_begins lo hi from old are))))

-- AT AN EDGE

abbrev pub nothing : ℕ → Cell
nothing place = record { place = place; size = 1; word = unknown 1 }

-- a cell is met by a write of nothing at an address that it has
goes : (number at : ℕ) (one : Cell) → one.place / 32 ≡ number → has_byte one at ≡ true → stays number (nothing at) one ≡ false
goes number at one here has = rw (eq-eqb (one.place / 32) number here, has) refl

goes_met : (number : ℕ) (cell one : Cell) → one.place / 32 ≡ number → meets cell.place cell.size one ≡ true → stays number cell one ≡ false
goes_met number cell one here met = rw (eq-eqb (one.place / 32) number here, met) refl

stays_unmet : (number : ℕ) (cell one : Cell) → meets cell.place cell.size one ≡ false → stays number cell one ≡ true
stays_unmet number cell one free = rw (and_right (one.place / 32 == number) (meets cell.place cell.size one) free) refl

has_not : (number at : ℕ) (one : Cell) → has_byte one at ≡ false → stays number (nothing at) one ≡ true
has_not number at one free = stays_unmet number (nothing at) one (rw free refl)

-- the tests of three writes, one behind the other
abbrev front_and_own : Cell → Cell → Bool
front_and_own cell one = stays ((cell.place - 1) / 32) (nothing cell.place) one && stays (cell.place / 32) cell one

abbrev all_three : Cell → Cell → Bool
all_three cell one =
    (stays ((cell.place - 1) / 32) (nothing cell.place) one && stays (next_address cell.place / 32) (nothing (next_address cell.place)) one)
    && stays (cell.place / 32) cell one

-- a cell with the first byte goes with the page in front, or with the cell's own
first_goes : (cell one : Cell) → (one.size ≡ 1) ⊎ (one.size ≡ 2) → has_byte one cell.place ≡ true
    → (stays ((cell.place - 1) / 32) (nothing cell.place) one ≡ false) ⊎ (stays (cell.place / 32) cell one ≡ false)
first_goes cell one size has = elim (begins one cell.place size has) [
  | inl here ↦
      inr (goes_met (cell.place / 32) cell one (ap (λ (n : ℕ). n / 32) here)
      (or_left (has_byte one cell.place) ((cell.size == 2) && has_byte one (next_address cell.place)) has))
  | inr front ↦ inl (goes ((cell.place - 1) / 32) cell.place one (omega (arith, front)) has)
]

second_goes : (cell one : Cell) → cell.place < 65536 → (one.size ≡ 1) ⊎ (one.size ≡ 2) → (cell.size == 2) ≡ true
    → has_byte one (next_address cell.place) ≡ true
    → (stays (next_address cell.place / 32) (nothing (next_address cell.place)) one ≡ false) ⊎ (stays (cell.place / 32) cell one ≡ false)
second_goes cell one lt size two has = elim (begins one (next_address cell.place) size has) [
  | inl here ↦ inl (goes (next_address cell.place / 32) (next_address cell.place) one (ap (λ (n : ℕ). n / 32) here) has)
  | inr front ↦
      inr (goes_met (cell.place / 32) cell one (omega (arith, front, lt))
      (or_right (has_byte one cell.place) ((cell.size == 2) && has_byte one (next_address cell.place)) (and_from (cell.size == 2) (has_byte one (next_address cell.place)) two has)))
]

one_byte_same : (cell one : Cell) → cell.size ≡ 1 → (one.size ≡ 1) ⊎ (one.size ≡ 2) → front_and_own cell one ≡ unmet cell one
one_byte_same cell one single size = elim (cases_Bool (has_byte one cell.place)) [
  | inl has ↦
      let met : meets cell.place cell.size one ≡ true = or_left (has_byte one cell.place) ((cell.size == 2) && has_byte one (next_address cell.place)) has in
      let front = stays ((cell.place - 1) / 32) (nothing cell.place) one in
      let own = stays (cell.place / 32) cell one in
      let none : (front && own) ≡ false = elim (first_goes cell one size has) [ inl f ↦ and_left front own f | inr o ↦ and_right front own o ] in
      none ∙ sym (ap not met)
  | inr free ↦
      let unmeets : meets cell.place cell.size one ≡ false = rw (free, single) refl in
      rw (has_not ((cell.place - 1) / 32) cell.place one free, stays_unmet (cell.place / 32) cell one unmeets) (sym (ap not unmeets))
]

two_bytes_same : (cell one : Cell) → cell.place < 65536 → cell.size ≡ 2 → (one.size ≡ 1) ⊎ (one.size ≡ 2)
    → all_three cell one ≡ unmet cell one
two_bytes_same cell one lt double size =
    let front = stays ((cell.place - 1) / 32) (nothing cell.place) one in
    let behind = stays (next_address cell.place / 32) (nothing (next_address cell.place)) one in
    let own = stays (cell.place / 32) cell one in
    let two : (cell.size == 2) ≡ true = eq-eqb cell.size 2 double in
    elim (cases_Bool (has_byte one cell.place)) [
      | inl has ↦
          let met : meets cell.place cell.size one ≡ true = or_left (has_byte one cell.place) ((cell.size == 2) && has_byte one (next_address cell.place)) has in
          let none : ((front && behind) && own) ≡ false = elim (first_goes cell one size has) [
            | inl f ↦ and_left (front && behind) own (and_left front behind f)
            | inr o ↦ and_right (front && behind) own o
          ] in
          none ∙ sym (ap not met)
      | inr free ↦ elim (cases_Bool (has_byte one (next_address cell.place))) [
        | inl has ↦
            let met : meets cell.place cell.size one ≡ true =
            or_right (has_byte one cell.place) ((cell.size == 2) && has_byte one (next_address cell.place)) (and_from (cell.size == 2) (has_byte one (next_address cell.place)) two has) in
            let none : ((front && behind) && own) ≡ false = elim (second_goes cell one lt size two has) [
              | inl b ↦ and_left (front && behind) own (and_right front behind b)
              | inr o ↦ and_right (front && behind) own o
            ] in
            none ∙ sym (ap not met)
        | inr away_too ↦
            let unmeets : meets cell.place cell.size one ≡ false =
            or_from (has_byte one cell.place) ((cell.size == 2) && has_byte one (next_address cell.place)) free (and_right (cell.size == 2) (has_byte one (next_address cell.place)) away_too) in
            rw (has_not ((cell.place - 1) / 32) cell.place one free, has_not (next_address cell.place / 32) (next_address cell.place) one away_too, stays_unmet (cell.place / 32) cell one unmeets)
            (sym (ap not unmeets))
      ]
    ]

pub left_out : (lo hi at : ℕ) → is_nothing 1 (unknown 1) ≡ true → is_left_out lo hi (nothing at) ≡ true
left_out lo hi at h = rw h (or_right (nat_lt at lo || nat_lt hi (at + 1 - 1)) true refl)

-- such a write puts nothing
put_nothing : (lo hi at : ℕ) (cells : List Cell) → is_nothing 1 (unknown 1) ≡ true → with_cell lo hi (nothing at) cells ≡ cells
put_nothing lo hi at cells h = rw (left_out lo hi at h) refl

-- cells behind a write in one page
abbrev pub IsPut : (lo hi number : ℕ) → Cell → (old new : List Cell) → Type 0
IsPut lo hi number cell old new = new ≡ with_cell lo hi cell (filter (stays number cell) old)

pub edge_of_one : (lo hi from : ℕ) (cell : Cell) (old first new : List Cell) → cell.size ≡ 1 → is_nothing 1 (unknown 1) ≡ true
    → AreCells lo hi from old → IsPut lo hi ((cell.place - 1) / 32) (nothing cell.place) old first
    → IsPut lo hi (cell.place / 32) cell first new
    → new ≡ with_written lo hi cell old
edge_of_one lo hi from cell old first new single h are front own =
    let one : first ≡ filter (stays ((cell.place - 1) / 32) (nothing cell.place)) old = front ∙ put_nothing lo hi cell.place _ h in
    own ∙ ap (with_cell lo hi cell)
    (ap (filter (stays (cell.place / 32) cell)) one
    ∙ (filter_twice (stays (cell.place / 32) cell) (stays ((cell.place - 1) / 32) (nothing cell.place)) old
    ∙ filter_same (front_and_own cell) (unmet cell) old
    (each_then (IsCell lo hi) (λ c. front_and_own cell c ≡ unmet cell c) old (λ c is. one_byte_same cell c single is.size) (each_cell lo hi from old are))))

pub edge_of_two : (lo hi from : ℕ) (cell : Cell) (old first second new : List Cell) → cell.place < 65536 → cell.size ≡ 2
    → is_nothing 1 (unknown 1) ≡ true
    → AreCells lo hi from old → IsPut lo hi ((cell.place - 1) / 32) (nothing cell.place) old first
    → IsPut lo hi (next_address cell.place / 32) (nothing (next_address cell.place)) first second
    → IsPut lo hi (cell.place / 32) cell second new
    → new ≡ with_written lo hi cell old
edge_of_two lo hi from cell old first second new lt double h are front behind own =
    let p = stays ((cell.place - 1) / 32) (nothing cell.place) in
    let q = stays (next_address cell.place / 32) (nothing (next_address cell.place)) in
    let r = stays (cell.place / 32) cell in
    let one : first ≡ filter p old = front ∙ put_nothing lo hi cell.place _ h in
    let two : second ≡ filter (λ c. p c && q c) old = behind ∙ (put_nothing lo hi (next_address cell.place) _ h ∙ (ap (filter q) one ∙ filter_twice q p old)) in
    own ∙ ap (with_cell lo hi cell)
    (ap (filter r) two
    ∙ (filter_twice r (λ c. p c && q c) old
    ∙ filter_same (all_three cell) (unmet cell) old
    (each_then (IsCell lo hi) (λ c. all_three cell c ≡ unmet cell c) old (λ c is. two_bytes_same cell c lt double is.size) (each_cell lo hi from old are))))
