-- Pages, and the one list of their cells.
use Prim.Native.Nat.{zero, suc}
use Rattle.std.proofs.Common.{◌≡◌, ℕ, ◌+◌, ◌/◌, ◌<◌, ◌≤◌, refl, sym, ap, ◌∙◌, subst, false, Option, None, List, [], ◌∷◌, length, get_or, drop, inl, inr, arith}
use Rattle.std.specs.Prelude.{◌==◌, if◌then◌else◌}
use Rattle.std.proofs.lemmas.Bool.{cases_Bool, cases_lt, lt-ltb, le-ltb, eqb-true, eqb-false, eq-eqb, ne_eqb}
use Rattle.entry_value.specs.declared.cells.Cell.{Cell}
use Rattle.entry_value.specs.declared.word.Word.{Word}
use Rattle.entry_value.specs.CellLists.{Each, each_then}
use Rattle.entry_value.specs.Words.{word_join, word_widen}
use Rattle.entry_value.specs.Cells.{are_within, both_of, byte_widened, cell_at, cell_widened, join_cells, kept, next, widen_cells, with_both}
use Rattle.abs_pages.specs.Paging.{Paged, EachPage, IsPage, Rise, begun_at, cells_at, flat, has_page, pages_below}
use Rattle.abs_pages.proofs.Lists.{each_append, begun_at_left, begun_at_right, cell_at_left, cell_at_right, kept_none, kept_same, next_before, within_same}

-- ORDER

pub rise_lower : (from lower : ℕ) (pages : List Paged) → lower ≤ from → Rise from pages → Rise lower pages
rise_lower from lower [] le h = tt
rise_lower from lower (page ∷ pages) le h = (omega (arith, h.0), h.1)

number_least : (from : ℕ) (pages : List Paged) (j : ℕ) (d : Paged) → Rise from pages → j < length pages → from ≤ (get_or pages j d).number
number_least from [] j d h lt = absurd (omega arith)
number_least from (page ∷ pages) zero d h lt = h.0
number_least from (page ∷ pages) (suc j) d h lt =
    let least = number_least (page.number + 1) pages j d h.1 (omega arith) in omega (arith, h.0, least)

pub numbers_rise : (from : ℕ) (pages : List Paged) → Rise from pages
    → (i j : ℕ) (d : Paged) → i ≤ j → j < length pages → (get_or pages i d).number ≤ (get_or pages j d).number
numbers_rise from [] h i j d le lt = absurd (omega arith)
numbers_rise from (page ∷ pages) h zero zero d le lt = omega arith
numbers_rise from (page ∷ pages) h zero (suc j) d le lt =
    let least = number_least (page.number + 1) pages j d h.1 (omega arith) in omega (arith, least)
numbers_rise from (page ∷ pages) h (suc i) zero d le lt = absurd (omega arith)
numbers_rise from (page ∷ pages) h (suc i) (suc j) d le lt = numbers_rise (page.number + 1) pages h.1 i j d (omega arith) (omega arith)

pub each_page_drop : (P : Paged → Type 0) (n : ℕ) (pages : List Paged) → EachPage P pages → EachPage P (drop n pages)
each_page_drop P zero pages h = h
each_page_drop P (suc n) [] h = tt
each_page_drop P (suc n) (page ∷ pages) h = each_page_drop P n pages h.1

pub each_page_at : (P : Paged → Type 0) (pages : List Paged) (i : ℕ) (d : Paged) → EachPage P pages → i < length pages
    → P (get_or pages i d)
each_page_at P [] i d h lt = absurd (omega arith)
each_page_at P (page ∷ pages) zero d h lt = h.0
each_page_at P (page ∷ pages) (suc i) d h lt = each_page_at P pages i d h.1 (omega arith)

-- WHERE CELLS LIE

pub flat_behind : (from : ℕ) (pages : List Paged) → Rise from pages → EachPage IsPage pages
    → Each (λ cell. from ≤ cell.place / 32) (flat pages)
flat_behind from [] rise each = tt
flat_behind from (page ∷ pages) rise each =
    each_append (λ cell. from ≤ cell.place / 32) page.map.cells (flat pages)
    (each_then (λ cell. cell.place / 32 ≡ page.number) (λ cell. from ≤ cell.place / 32) page.map.cells (λ cell e. omega (arith, e, rise.0)) each.0.inside)
    (each_then (λ cell. page.number + 1 ≤ cell.place / 32) (λ cell. from ≤ cell.place / 32) (flat pages) (λ cell h. omega (arith, h, rise.0))
    (flat_behind (page.number + 1) pages rise.1 each.1))

other_place : (one other a b : ℕ) → one / 32 ≡ a → other / 32 ≡ b → (a ≡ b → ⊥) → (one == other) ≡ false
other_place one other a b e f differ = ne_eqb one other (λ same. differ (sym e ∙ (ap (λ (n : ℕ). n / 32) same ∙ f)))

-- a place is looked up in the page of its block
pub looked : (from : ℕ) (pages : List Paged) (place size number : ℕ) → Rise from pages → EachPage IsPage pages → place / 32 ≡ number
    → cell_at (flat pages) place size ≡ cell_at (cells_at pages number) place size
looked from [] place size number rise each e = refl
looked from (page ∷ pages) place size number rise each e = elim (cases_Bool (page.number == number)) [
  | inl same ↦
      let is : page.number ≡ number = eqb-true page.number number same in
      rw same (cell_at_left page.map.cells (flat pages) place size
      (each_then (λ cell. page.number + 1 ≤ cell.place / 32) (λ cell. (cell.place == place) ≡ false) (flat pages)
      (λ cell h. other_place cell.place place (cell.place / 32) number refl e (λ clash. omega (arith, h, is, clash)))
      (flat_behind (page.number + 1) pages rise.1 each.1)))
  | inr other ↦
      rw other (cell_at_right page.map.cells (flat pages) place size
      (each_then (λ cell. cell.place / 32 ≡ page.number) (λ cell. (cell.place == place) ≡ false) page.map.cells
      (λ cell h. other_place cell.place place page.number number h e (eqb-false page.number number other)) each.0.inside)
      ∙ looked (page.number + 1) pages place size number rise.1 each.1 e)
]

-- what begins at an address is looked up there too
pub begun_looked : (from : ℕ) (pages : List Paged) (at number : ℕ) → Rise from pages → EachPage IsPage pages → at / 32 ≡ number
    → begun_at (flat pages) at ≡ begun_at (cells_at pages number) at
begun_looked from [] at number rise each e = refl
begun_looked from (page ∷ pages) at number rise each e = elim (cases_Bool (page.number == number)) [
  | inl same ↦
      let is : page.number ≡ number = eqb-true page.number number same in
      rw same (begun_at_left page.map.cells (flat pages) at
      (each_then (λ cell. page.number + 1 ≤ cell.place / 32) (λ cell. (cell.place == at) ≡ false) (flat pages)
      (λ cell h. other_place cell.place at (cell.place / 32) number refl e (λ clash. omega (arith, h, is, clash)))
      (flat_behind (page.number + 1) pages rise.1 each.1)))
  | inr other ↦
      rw other (begun_at_right page.map.cells (flat pages) at
      (each_then (λ cell. cell.place / 32 ≡ page.number) (λ cell. (cell.place == at) ≡ false) page.map.cells
      (λ cell h. other_place cell.place at page.number number h e (eqb-false page.number number other)) each.0.inside)
      ∙ begun_looked (page.number + 1) pages at number rise.1 each.1 e)
]

-- no page in front has the next cell
pub next_skips : (pages : List Paged) (from number : ℕ) → EachPage IsPage pages → from / 32 ≡ number
    → next (flat (drop (pages_below pages number) pages)) from ≡ next (flat pages) from
next_skips [] from number each e = refl
next_skips (page ∷ pages) from number each e = elim (cases_lt page.number number) [
  | inl lt ↦
      rw (lt-ltb page.number number lt) (next_skips pages from number each.1 e
      ∙ sym (next_before page.map.cells (flat pages) from
      (each_then (λ cell. cell.place / 32 ≡ page.number) (λ cell. cell.place < from) page.map.cells (λ cell h. omega (arith, h, e, lt)) each.0.inside)))
  | inr ge ↦ rw (le-ltb page.number number ge) refl
]

-- WHICH PAGES THERE ARE

pub none_from : (from : ℕ) (pages : List Paged) (number : ℕ) → Rise from pages → number < from → has_page pages number ≡ false
none_from from [] number h lt = refl
none_from from (page ∷ pages) number h lt =
    rw (ne_eqb page.number number (λ same. omega (arith, same, h.0, lt))) (none_from (page.number + 1) pages number h.1 (omega (arith, h.0, lt)))

pub none_at_end : (from : ℕ) (pages : List Paged) (number : ℕ) → Rise from pages
    → length pages ≤ pages_below pages number → has_page pages number ≡ false
none_at_end from [] number h e = refl
none_at_end from (page ∷ pages) number h e = elim (cases_lt page.number number) [
  | inl lt ↦
      rw (ne_eqb page.number number (λ same. omega (arith, same, lt)))
      (none_at_end (page.number + 1) pages number h.1 (let rest = rw (lt-ltb page.number number lt) at e in omega (arith, rest)))
  | inr ge ↦ absurd (let rest = rw (le-ltb page.number number ge) at e in omega (arith, rest))
]

pub none_beside : (from : ℕ) (pages : List Paged) (number : ℕ) (d : Paged) → Rise from pages → pages_below pages number < length pages
    → ((get_or pages (pages_below pages number) d).number ≡ number → ⊥) → has_page pages number ≡ false
none_beside from [] number d h lt other = refl
none_beside from (page ∷ pages) number d h lt other = elim (cases_lt page.number number) [
  | inl below ↦
      let test = lt-ltb page.number number below in
      rw (ne_eqb page.number number (λ same. omega (arith, same, below)))
      (none_beside (page.number + 1) pages number d h.1 (let rest = rw test at lt in omega (arith, rest)) (rw test at other))
  | inr ge ↦
      let differ : page.number ≡ number → ⊥ = rw (le-ltb page.number number ge) at other in
      rw (ne_eqb page.number number differ) (none_from (page.number + 1) pages number h.1
      (elim (cases_lt number (page.number + 1)) [ inl lt' ↦ lt' | inr gt ↦ omega (arith, gt, ge) ]))
]

pub cells_none : (pages : List Paged) (number : ℕ) → has_page pages number ≡ false → cells_at pages number ≡ []
cells_none [] number h = refl
cells_none (page ∷ pages) number h = elim (cases_Bool (page.number == number)) [
  | inl same ↦ absurd (let clash = rw same at h in cc)
  | inr other ↦ rw other (cells_none pages number (rw other at h))
]

pub cells_found : (pages : List Paged) (number : ℕ) (d : Paged) → pages_below pages number < length pages
    → (get_or pages (pages_below pages number) d).number ≡ number
    → (get_or pages (pages_below pages number) d).map.cells ≡ cells_at pages number
cells_found [] number d lt is = absurd (omega arith)
cells_found (page ∷ pages) number d lt is = elim (cases_lt page.number number) [
  | inl below ↦
      let test = lt-ltb page.number number below in
      rw (test, ne_eqb page.number number (λ same. omega (arith, same, below)))
      (cells_found pages number d (let rest = rw test at lt in omega (arith, rest)) (rw test at is))
  | inr ge ↦
      let test = le-ltb page.number number ge in
      let here : page.number ≡ number = rw test at is in
      rw (test, eq-eqb page.number number here) refl
]

pub inside_at : (pages : List Paged) (number : ℕ) → EachPage IsPage pages → Each (λ cell. cell.place / 32 ≡ number) (cells_at pages number)
inside_at [] number each = tt
inside_at (page ∷ pages) number each = elim (cases_Bool (page.number == number)) [
  | inl same ↦
      rw same (subst (λ (n : ℕ). Each (λ cell. cell.place / 32 ≡ n) page.map.cells) (eqb-true page.number number same) each.0.inside)
  | inr other ↦ rw other (inside_at pages number each.1)
]

-- PAGE BY PAGE

each_of : (cells : List Cell) (P : Cell → Type 0) → ((cell : Cell) → P cell) → Each P cells
each_of [] P f = tt
each_of (cell ∷ cells) P f = (f cell, each_of cells P f)

each_looked : (pages : List Paged) (number : ℕ) (cells : List Cell) → Rise 0 pages → EachPage IsPage pages
    → Each (λ cell. cell.place / 32 ≡ number) cells
    → Each (λ cell. cell_at (flat pages) cell.place cell.size ≡ cell_at (cells_at pages number) cell.place cell.size) cells
each_looked pages number cells rise each inside =
    each_then (λ cell. cell.place / 32 ≡ number) (λ cell. cell_at (flat pages) cell.place cell.size ≡ cell_at (cells_at pages number) cell.place cell.size) cells
    (λ cell here. looked 0 pages cell.place cell.size number rise each here) inside

pub within_looked : (pages : List Paged) (number : ℕ) (cells : List Cell) → Rise 0 pages → EachPage IsPage pages
    → Each (λ cell. cell.place / 32 ≡ number) cells
    → are_within (flat pages) cells ≡ are_within (cells_at pages number) cells
within_looked pages number cells rise each inside = within_same (flat pages) (cells_at pages number) cells (each_looked pages number cells rise each inside)

pub join_looked : (pages : List Paged) (number : ℕ) (cells : List Cell) → Rise 0 pages → EachPage IsPage pages
    → Each (λ cell. cell.place / 32 ≡ number) cells
    → join_cells cells (cells_at pages number) ≡ kept (with_both word_join (flat pages)) cells
unfolding join_cells
join_looked pages number cells rise each inside =
    kept_same (with_both word_join (cells_at pages number)) (with_both word_join (flat pages)) cells
    (each_then (λ cell. cell_at (flat pages) cell.place cell.size ≡ cell_at (cells_at pages number) cell.place cell.size)
    (λ cell. with_both word_join (cells_at pages number) cell ≡ with_both word_join (flat pages) cell) cells
    (λ cell e. ap (both_of word_join cell) (sym e)) (each_looked pages number cells rise each inside))

abbrev pub widened_by : List ℕ → Cell → Option Word → Option Cell
widened_by marks cell found =
    if cell.size == 1 then both_of (λ h n. byte_widened h n marks) cell found else both_of (λ h n. word_widen h n marks) cell found

pub widen_looked : (pages : List Paged) (number : ℕ) (cells : List Cell) (marks : List ℕ) → Rise 0 pages → EachPage IsPage pages
    → Each (λ cell. cell.place / 32 ≡ number) cells
    → widen_cells cells (cells_at pages number) marks ≡ kept (cell_widened marks (flat pages)) cells
unfolding widen_cells
widen_looked pages number cells marks rise each inside =
    kept_same (cell_widened marks (cells_at pages number)) (cell_widened marks (flat pages)) cells
    (each_then (λ cell. cell_at (flat pages) cell.place cell.size ≡ cell_at (cells_at pages number) cell.place cell.size)
    (λ cell. cell_widened marks (cells_at pages number) cell ≡ cell_widened marks (flat pages) cell) cells
    (λ cell e. ap (widened_by marks cell) (sym e)) (each_looked pages number cells rise each inside))

pub join_none : (cells : List Cell) → join_cells cells [] ≡ []
unfolding join_cells
join_none cells = kept_none (with_both word_join []) cells (each_of cells (λ cell. with_both word_join [] cell ≡ None) (λ cell. refl))

widened_none : (marks : List ℕ) (cell : Cell) → cell_widened marks [] cell ≡ None
widened_none marks cell = elim (cases_Bool (cell.size == 1)) [ inl one ↦ rw one refl | inr two ↦ rw two refl ]

pub widen_none : (cells : List Cell) (marks : List ℕ) → widen_cells cells [] marks ≡ []
unfolding widen_cells
widen_none cells marks = kept_none (cell_widened marks []) cells (each_of cells (λ cell. cell_widened marks [] cell ≡ None) (widened_none marks))
