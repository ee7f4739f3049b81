-- A page in place of the one of its number.
use Prim.Native.Nat.{suc}
use Rattle.std.proofs.Common.{◌≡◌, ℕ, ◌+◌, ◌/◌, ◌<◌, ◌≤◌, ◌++◌, refl, sym, ap, ◌∙◌, subst, Bool, true, false, List, [], ◌∷◌, length, get_or, inl, inr, append-nil, arith}
use Rattle.std.specs.Prelude.{◌⊎◌, ◌≢◌, ◌==◌, not, nat_lt, if◌then◌else◌}
use Rattle.std.specs.List.{filter}
use Rattle.std.proofs.lemmas.Bool.{cases_Bool, cases_lt, both_ways, lt-ltb, le-ltb, eqb-true, eqb-false, eq-eqb, ne_eqb}
use Rattle.entry_value.specs.declared.cells.Cell.{Cell}
use Rattle.entry_value.specs.CellLists.{Each, each_insert, each_then, each_filter}
use Rattle.entry_value.specs.Cells.{meets, with_cell, write_one}
use Rattle.abs_pages.specs.Paging.{ArePages, Paged, EachPage, HasBounds, IsPage, Rise, cells_at, flat, has_page, is_empty, is_left_out, new_page, pages_below, stays, with_page_at, with_page_in, written_page}
use Rattle.abs_pages.proofs.Lists.{filter_append, filter_all, filter_same, insert_behind, insert_front}
use Rattle.abs_pages.proofs.Flat.{rise_lower, each_page_at, flat_behind, cells_found, cells_none, inside_at, none_from}

-- pages with one more in front of them, unless it has no cells
abbrev pub with_page : Paged → List Paged → List Paged
with_page page pages = if is_empty page.map.cells then pages else page ∷ pages

-- pages with this one in place of the one of its number
abbrev pub page_put : Paged → List Paged → List Paged
page_put page [] = with_page page []
page_put page (p ∷ pages) =
    if nat_lt p.number page.number then p ∷ page_put page pages
    else if p.number == page.number then with_page page pages
    else with_page page (p ∷ pages)

-- AT AN INDEX

at_behind : (page p : Paged) (pages : List Paged) (i : ℕ) → with_page_at (suc i) page (p ∷ pages) ≡ p ∷ with_page_at i page pages
at_behind page p pages i = elim (cases_Bool (is_empty page.map.cells)) [ inl none ↦ rw none refl | inr some ↦ rw some refl ]

pub at_put : (page : Paged) (pages : List Paged) (d : Paged) → pages_below pages page.number < length pages
    → (get_or pages (pages_below pages page.number) d).number ≡ page.number
    → with_page_at (pages_below pages page.number) page pages ≡ page_put page pages
at_put page [] d lt is = absurd (omega arith)
at_put page (p ∷ pages) d lt is = elim (cases_lt p.number page.number) [
  | inl below ↦
      let test = lt-ltb p.number page.number below in
      rw test (at_behind page p pages (pages_below pages page.number)
      ∙ ap (λ rest. p ∷ rest) (at_put page pages d (let rest = rw test at lt in omega (arith, rest)) (rw test at is)))
  | inr ge ↦
      let test = le-ltb p.number page.number ge in
      let here : p.number ≡ page.number = rw test at is in
      rw (test, eq-eqb p.number page.number here) refl
]

in_behind : (page p : Paged) (pages : List Paged) (i : ℕ) → with_page_in (suc i) page (p ∷ pages) ≡ p ∷ with_page_in i page pages
in_behind page p pages i = elim (cases_Bool (is_empty page.map.cells)) [ inl none ↦ rw none refl | inr some ↦ rw some refl ]

pub in_put : (page : Paged) (pages : List Paged) → has_page pages page.number ≡ false
    → with_page_in (pages_below pages page.number) page pages ≡ page_put page pages
in_put page [] none = refl
in_put page (p ∷ pages) none = elim (cases_Bool (p.number == page.number)) [
  | inl same ↦ absurd (let clash = rw same at none in cc)
  | inr other ↦ elim (cases_lt p.number page.number) [
    | inl below ↦
        rw (lt-ltb p.number page.number below) (in_behind page p pages (pages_below pages page.number)
        ∙ ap (λ rest. p ∷ rest) (in_put page pages (rw other at none)))
    | inr ge ↦ rw (le-ltb p.number page.number ge, other) refl
  ]
]

-- WHAT PAGES KEEP

with_rise : (from : ℕ) (page : Paged) (pages : List Paged) → from ≤ page.number → Rise (page.number + 1) pages
    → Rise from (with_page page pages)
with_rise from page pages le h = elim (cases_Bool (is_empty page.map.cells)) [
  | inl none ↦ rw none (rise_lower (page.number + 1) from pages (omega (arith, le)) h)
  | inr some ↦ rw some (le, h)
]

pub put_rise : (from : ℕ) (page : Paged) (pages : List Paged) → Rise from pages → from ≤ page.number → Rise from (page_put page pages)
put_rise from page [] h le = with_rise from page [] le tt
put_rise from page (p ∷ pages) h le = elim (cases_lt p.number page.number) [
  | inl below ↦ rw (lt-ltb p.number page.number below) (h.0, put_rise (p.number + 1) page pages h.1 (omega (arith, below)))
  | inr ge ↦ elim (cases_Bool (p.number == page.number)) [
    | inl same ↦
        let is = eqb-true p.number page.number same in
        rw (le-ltb p.number page.number ge, same) (with_rise from page pages le (subst (λ (n : ℕ). Rise (n + 1) pages) is h.1))
    | inr other ↦
        let differ = eqb-false p.number page.number other in
        rw (le-ltb p.number page.number ge, other) (with_rise from page (p ∷ pages) le (omega (arith, ge, differ), h.1))
  ]
]

with_each : (P : Paged → Type 0) (page : Paged) (pages : List Paged) → (is_empty page.map.cells ≡ false → P page)
    → EachPage P pages → EachPage P (with_page page pages)
with_each P page pages own h = elim (cases_Bool (is_empty page.map.cells)) [ inl none ↦ rw none h | inr some ↦ rw some (own some, h) ]

pub put_each : (P : Paged → Type 0) (page : Paged) (pages : List Paged) → (is_empty page.map.cells ≡ false → P page)
    → EachPage P pages → EachPage P (page_put page pages)
put_each P page [] own h = with_each P page [] own tt
put_each P page (p ∷ pages) own h = elim (cases_lt p.number page.number) [
  | inl below ↦ rw (lt-ltb p.number page.number below) (h.0, put_each P page pages own h.1)
  | inr ge ↦ elim (cases_Bool (p.number == page.number)) [
    | inl same ↦ rw (le-ltb p.number page.number ge, same) (with_each P page pages own h.1)
    | inr other ↦ rw (le-ltb p.number page.number ge, other) (with_each P page (p ∷ pages) own h)
  ]
]

-- THE CELLS BEHIND A WRITE

-- the cell is of the page, or isn't put anywhere
abbrev pub IsOwn : (lo hi number : ℕ) → Cell → Type 0
IsOwn lo hi number cell = (cell.place / 32 ≡ number) ⊎ (is_left_out lo hi cell ≡ true)

abbrev pub unmet : Cell → Cell → Bool
unmet cell one = not (meets cell.place cell.size one)

flat_with_cells : (number lo hi : ℕ) (cells : List Cell) (pages : List Paged)
    → flat (with_page (record { number = number; map = record { lo = lo; hi = hi; cells = cells } }) pages) ≡ cells ++ flat pages
flat_with_cells number lo hi [] pages = refl
flat_with_cells number lo hi (cell ∷ cells) pages = refl

flat_with : (page : Paged) (pages : List Paged) → flat (with_page page pages) ≡ page.map.cells ++ flat pages
flat_with page pages = flat_with_cells page.number page.map.lo page.map.hi page.map.cells pages

stays_elsewhere : (number : ℕ) (cell one : Cell) → (one.place / 32 ≡ number → ⊥) → stays number cell one ≡ true
stays_elsewhere number cell one other = rw (ne_eqb (one.place / 32) number other) refl

stays_here : (number : ℕ) (cell one : Cell) → one.place / 32 ≡ number → stays number cell one ≡ unmet cell one
stays_here number cell one here = rw (eq-eqb (one.place / 32) number here) refl

own_place : (lo hi number : ℕ) (cell : Cell) → IsOwn lo hi number cell → is_left_out lo hi cell ≡ false → cell.place / 32 ≡ number
own_place lo hi number cell (inl here) put = here
own_place lo hi number cell (inr out) put = absurd (both_ways (is_left_out lo hi cell) put out)

-- cells in front, and cells behind
with_behind : (lo hi number : ℕ) (cell : Cell) (xs ys : List Cell) → IsOwn lo hi number cell → Each (λ x. x.place / 32 < number) xs
    → with_cell lo hi cell (xs ++ ys) ≡ xs ++ with_cell lo hi cell ys
with_behind lo hi number cell xs ys own h = elim (cases_Bool (is_left_out lo hi cell)) [
  | inl out ↦ rw out refl
  | inr put ↦
      let here = own_place lo hi number cell own put in
      rw put (insert_behind cell xs ys (each_then (λ x. x.place / 32 < number) (λ x. x.place ≤ cell.place) xs (λ x lt. omega (arith, lt, here)) h))
]

with_front : (lo hi number : ℕ) (cell : Cell) (xs ys : List Cell) → IsOwn lo hi number cell → Each (λ y. number < y.place / 32) ys
    → with_cell lo hi cell (xs ++ ys) ≡ with_cell lo hi cell xs ++ ys
with_front lo hi number cell xs ys own h = elim (cases_Bool (is_left_out lo hi cell)) [
  | inl out ↦ rw out refl
  | inr put ↦
      let here = own_place lo hi number cell own put in
      rw put (insert_front cell xs ys (each_then (λ y. number < y.place / 32) (λ y. cell.place < y.place) ys (λ y lt. omega (arith, lt, here)) h))
]

all_stay_behind : (from number : ℕ) (cell : Cell) (pages : List Paged) → Rise from pages → EachPage IsPage pages → number < from
    → filter (stays number cell) (flat pages) ≡ flat pages
all_stay_behind from number cell pages rise each lt =
    filter_all (stays number cell) (flat pages)
    (each_then (λ one. from ≤ one.place / 32) (λ one. stays number cell one ≡ true) (flat pages)
    (λ one le. stays_elsewhere number cell one (λ same. omega (arith, le, lt, same))) (flat_behind from pages rise each))

-- the page itself, with those behind it
put_here : (lo hi : ℕ) (cell : Cell) (number : ℕ) (cells : List Cell) (pages : List Paged) → IsOwn lo hi number cell
    → EachPage IsPage pages → Rise (number + 1) pages
    → Each (λ one. one.place / 32 ≡ number) cells
    → with_cell lo hi cell (filter (stays number cell) (cells ++ flat pages)) ≡ with_cell lo hi cell (filter (unmet cell) cells) ++ flat pages
put_here lo hi cell number cells pages own each rise inside =
    let own_cells : filter (stays number cell) cells ≡ filter (unmet cell) cells =
    filter_same (stays number cell) (unmet cell) cells
    (each_then (λ one. one.place / 32 ≡ number) (λ one. stays number cell one ≡ unmet cell one) cells (λ one here. stays_here number cell one here) inside) in
    let others = all_stay_behind (number + 1) number cell pages rise each (omega arith) in
    ap (with_cell lo hi cell) (filter_append (stays number cell) cells (flat pages)
    ∙ (ap (λ front. front ++ filter (stays number cell) (flat pages)) own_cells ∙ ap (λ behind. filter (unmet cell) cells ++ behind) others))
    ∙ with_front lo hi number cell (filter (unmet cell) cells) (flat pages) own
    (each_then (λ one. number + 1 ≤ one.place / 32) (λ one. number < one.place / 32) (flat pages) (λ one le. omega (arith, le)) (flat_behind (number + 1) pages rise each))

-- a page in front of it
put_on : (lo hi : ℕ) (cell : Cell) (number : ℕ) (p : Paged) (pages : List Paged) → IsOwn lo hi number cell → IsPage p → p.number < number
    → with_cell lo hi cell (filter (stays number cell) (p.map.cells ++ flat pages)) ≡ p.map.cells ++ with_cell lo hi cell (filter (stays number cell) (flat pages))
put_on lo hi cell number p pages own is below =
    let stay : filter (stays number cell) p.map.cells ≡ p.map.cells =
    filter_all (stays number cell) p.map.cells
    (each_then (λ one. one.place / 32 ≡ p.number) (λ one. stays number cell one ≡ true) p.map.cells
    (λ one here. stays_elsewhere number cell one (λ same. omega (arith, here, same, below))) is.inside) in
    ap (with_cell lo hi cell) (filter_append (stays number cell) p.map.cells (flat pages)
    ∙ ap (λ front. front ++ filter (stays number cell) (flat pages)) stay)
    ∙ with_behind lo hi number cell p.map.cells (filter (stays number cell) (flat pages)) own
    (each_then (λ one. one.place / 32 ≡ p.number) (λ one. one.place / 32 < number) p.map.cells (λ one here. omega (arith, here, below)) is.inside)

pub put_flat : (lo hi from : ℕ) (cell : Cell) (page : Paged) (pages : List Paged) → Rise from pages
    → EachPage IsPage pages → IsOwn lo hi page.number cell
    → page.map.cells ≡ with_cell lo hi cell (filter (unmet cell) (cells_at pages page.number))
    → flat (page_put page pages) ≡ with_cell lo hi cell (filter (stays page.number cell) (flat pages))
put_flat lo hi from cell page [] rise each own is = flat_with page [] ∙ (append-nil page.map.cells ∙ is)
put_flat lo hi from cell page (p ∷ pages) rise each own is = elim (cases_Bool (p.number == page.number)) [
  | inl same ↦
      let number : p.number ≡ page.number = eqb-true p.number page.number same in
      let cells : page.map.cells ≡ with_cell lo hi cell (filter (unmet cell) p.map.cells) = rw same at is in
      rw (le-ltb p.number page.number (omega (arith, number)), same)
      (flat_with page pages ∙ ap (λ front. front ++ flat pages) cells
      ∙ sym (put_here lo hi cell page.number p.map.cells pages own each.1 (subst (λ (n : ℕ). Rise (n + 1) pages) number rise.1)
      (subst (λ (n : ℕ). Each (λ one. one.place / 32 ≡ n) p.map.cells) number each.0.inside)))
  | inr other ↦
      let differ = eqb-false p.number page.number other in
      elim (cases_lt p.number page.number) [
        | inl below ↦
            let rest = put_flat lo hi (p.number + 1) cell page pages rise.1 each.1 own (rw other at is) in
            rw (lt-ltb p.number page.number below)
            (ap (λ behind. p.map.cells ++ behind) rest ∙ sym (put_on lo hi cell page.number p pages own each.0 below))
        | inr ge ↦
            let above : page.number < p.number = omega (arith, ge, differ) in
            let none : cells_at pages page.number ≡ [] = cells_none pages page.number (none_from (p.number + 1) pages page.number rise.1 (omega (arith, above))) in
            let cells : page.map.cells ≡ with_cell lo hi cell [] = (rw (other, none) at is) in
            let risen : Rise p.number (p ∷ pages) = (omega arith, rise.1) in
            rw (le-ltb p.number page.number ge, other)
            (flat_with page (p ∷ pages) ∙ ap (λ front. front ++ flat (p ∷ pages)) cells
            ∙ sym (with_front lo hi page.number cell [] (flat (p ∷ pages)) own
            (each_then (λ one. p.number ≤ one.place / 32) (λ one. page.number < one.place / 32) (flat (p ∷ pages)) (λ one le. omega (arith, le, above)) (flat_behind p.number (p ∷ pages) risen each)))
            ∙ ap (with_cell lo hi cell) (sym (all_stay_behind p.number page.number cell (p ∷ pages) risen each above)))
      ]
]

-- THE PAGE THAT IS PUT

each_with_own : (P : Cell → Type 0) (lo hi : ℕ) (cell : Cell) (cells : List Cell)
    → (is_left_out lo hi cell ≡ false → P cell) → Each P cells → Each P (with_cell lo hi cell cells)
each_with_own P lo hi cell cells own h = elim (cases_Bool (is_left_out lo hi cell)) [
  | inl out ↦ rw out h
  | inr put ↦ rw put (each_insert P cell cells (own put) h)
]

not_empty : (cells : List Cell) → is_empty cells ≡ false → cells ≢ []
not_empty [] h e = absurd cc
not_empty (cell ∷ cells) h e = absurd cc

pub is_page : (lo hi : ℕ) (cell : Cell) (page : Paged) (held : List Cell) → IsOwn lo hi page.number cell
    → Each (λ one. one.place / 32 ≡ page.number) held
    → page.map.cells ≡ with_cell lo hi cell (filter (unmet cell) held) → is_empty page.map.cells ≡ false → IsPage page
is_page lo hi cell page held own inside is some = record {
  some = not_empty page.map.cells some;
  inside = subst (Each (λ one. one.place / 32 ≡ page.number)) (sym is)
      (each_with_own (λ one. one.place / 32 ≡ page.number) lo hi cell (filter (unmet cell) held) (λ put. own_place lo hi page.number cell own put)
      (each_then (λ one. (one.place / 32 ≡ page.number) × (unmet cell one ≡ true)) (λ one. one.place / 32 ≡ page.number) (filter (unmet cell) held) (λ one both. both.0)
      (each_filter (λ one. one.place / 32 ≡ page.number) (unmet cell) held inside)));
}

pub written_cells : (lo hi : ℕ) (cell : Cell) (page : Paged) → HasBounds lo hi page
    → (written_page page cell).map.cells ≡ with_cell lo hi cell (filter (unmet cell) page.map.cells)
unfolding write_one
written_cells lo hi cell page bounds = rw (bounds.0, bounds.1) refl

pub written_bounds : (lo hi : ℕ) (cell : Cell) (page : Paged) → HasBounds lo hi page → HasBounds lo hi (written_page page cell)
unfolding write_one
written_bounds lo hi cell page bounds = bounds

-- pages behind a write in one of them
pub record Put (lo hi number : ℕ) (cell : Cell) (old new : List Paged) : Type 0 where
  pub pages : ArePages lo hi new
  pub value : flat new ≡ with_cell lo hi cell (filter (stays number cell) (flat old))

put_pages : (lo hi : ℕ) (cell : Cell) (page : Paged) (pages : List Paged) → ArePages lo hi pages
    → IsOwn lo hi page.number cell → HasBounds lo hi page
    → page.map.cells ≡ with_cell lo hi cell (filter (unmet cell) (cells_at pages page.number))
    → Put lo hi page.number cell pages (page_put page pages)
put_pages lo hi cell page pages are own bounds is = record {
  pages = record {
    rise = put_rise 0 page pages are.rise (omega arith);
    each = put_each IsPage page pages (is_page lo hi cell page (cells_at pages page.number) own (inside_at pages page.number are.each) is) are.each;
    bounds = put_each (HasBounds lo hi) page pages (λ some. bounds) are.bounds;
  };
  value = put_flat lo hi 0 cell page pages are.rise are.each own is;
}

nowhere : Paged
nowhere = record { number = 0; map = record { lo = 0; hi = 0; cells = [] } }

-- where there is a page, and where there is none
pub put_held : (lo hi number index : ℕ) (cell : Cell) (pages new : List Paged) → ArePages lo hi pages → IsOwn lo hi number cell
    → index ≡ pages_below pages number → index < length pages → ((d : Paged) → (get_or pages index d).number ≡ number)
    → ((d : Paged) → new ≡ with_page_at index (written_page (get_or pages index d) cell) pages) → Put lo hi number cell pages new
put_held lo hi number index cell pages new are own at lt here is =
    let held : Paged = get_or pages index nowhere in
    let page : Paged = written_page held cell in
    let numbered : page.number ≡ number = here nowhere in
    let bounds : HasBounds lo hi held = each_page_at (HasBounds lo hi) pages index nowhere are.bounds lt in
    let place : pages_below pages page.number ≡ index = ap (pages_below pages) numbered ∙ sym at in
    let found : held.map.cells ≡ cells_at pages page.number =
    subst (λ (i : ℕ). (get_or pages i nowhere).map.cells ≡ cells_at pages page.number) place
    (cells_found pages page.number nowhere (subst (λ (i : ℕ). i < length pages) (sym place) lt) (subst (λ (i : ℕ). (get_or pages i nowhere).number ≡ page.number) (sym place) refl)) in
    let cells : page.map.cells ≡ with_cell lo hi cell (filter (unmet cell) (cells_at pages page.number)) =
    written_cells lo hi cell held bounds ∙ ap (λ one. with_cell lo hi cell (filter (unmet cell) one)) found in
    let same : page_put page pages ≡ new =
    sym (at_put page pages nowhere (subst (λ (i : ℕ). i < length pages) (sym place) lt) (subst (λ (i : ℕ). (get_or pages i nowhere).number ≡ page.number) (sym place) refl))
    ∙ (ap (λ (i : ℕ). with_page_at i page pages) place ∙ sym (is nowhere)) in
    subst (λ (n : ℕ). Put lo hi n cell pages new) numbered
    (subst (Put lo hi page.number cell pages) same
    (put_pages lo hi cell page pages are (subst (λ (n : ℕ). IsOwn lo hi n cell) (sym numbered) own) (written_bounds lo hi cell held bounds) cells))

pub put_new : (lo hi number index : ℕ) (cell : Cell) (pages new : List Paged) → ArePages lo hi pages → IsOwn lo hi number cell
    → index ≡ pages_below pages number → has_page pages number ≡ false
    → new ≡ with_page_in index (new_page number lo hi cell) pages → Put lo hi number cell pages new
put_new lo hi number index cell pages new are own at none is =
    let blank : Paged = record { number = number; map = record { lo = lo; hi = hi; cells = [] } } in
    let page : Paged = new_page number lo hi cell in
    let cells : page.map.cells ≡ with_cell lo hi cell (filter (unmet cell) (cells_at pages number)) =
    written_cells lo hi cell blank (refl, refl) ∙ ap (λ one. with_cell lo hi cell (filter (unmet cell) one)) (sym (cells_none pages number none)) in
    let same : page_put page pages ≡ new = sym (in_put page pages none) ∙ (ap (λ (i : ℕ). with_page_in i page pages) (sym at) ∙ sym is) in
    subst (Put lo hi number cell pages) same (put_pages lo hi cell page pages are own (written_bounds lo hi cell blank (refl, refl)) cells)
