-- The blocks of cells: the pages of cells are the cells again, and pages in the order of their blocks are those of their cells.
use Rattle.std.specs.Prelude.{◌≡◌, ℕ, suc, ◌+◌, ◌/◌, ◌<◌, ◌≤◌, ◌==◌, ◌&&◌, ◌||◌, nat_le, not, if◌then◌else◌, Bool, true, false, Option, None, Some, List, [], ◌∷◌, ◌++◌, codes, length}
use Rattle.std.specs.List.{AllByRecursion, join_with_byte, list_all, onto_first, slice_split}
use Rattle.std.specs.Str.{bytes_eq}
use Rattle.std.proofs.Common.{refl, sym, ap, ap₂, ◌∙◌, subst, inl, inr, arith, append_assoc, length-append}
use Rattle.std.proofs.lemmas.Bool.{cases_Bool, and_from, and_parts, false≢true, true≢false, not-true, eqb-true, eqb-false, eq-eqb, ne_eqb, le-leb, leb-true}
use Rattle.std.proofs.lemmas.List.{append-nil}
use Rattle.std.proofs.lemmas.List.Splits.{join_with_byte-slice_split, length-slice_split, slice_split-cons_no, slice_split-cons_yes}
use Rattle.std.proofs.lemmas.Option.{none-some}
use Rattle.text_fields.specs.Spelling.{has_byte, has_byte-append}
use Rattle.text_fields.specs.Lists.{split_first, split_none}
use Rattle.state_text.specs.Cells.{are_cells, ascend, follows, loose_cell, loose_cell_is_exact}
use Rattle.cert_pages.specs.Pages.{Page, block_in, cut_by, dashed, in_one_block, is_page, onto_pages, pages_of, pages_within, place_by}
use Rattle.cert_pages.specs.Numbered.{Climb, are_bytes, bytes_are}

-- PARTS BETWEEN BYTES

-- no part has the byte
abbrev pub AreParts : (at : ℕ) → List (List ℕ) → Type 0
AreParts at parts = AllByRecursion (λ part. has_byte at part ≡ false) parts

onto_parts : (at b : ℕ) → (b == at) ≡ false → (parts : List (List ℕ)) → AreParts at parts → AreParts at (onto_first b parts)
onto_parts at b other [] are = (rw other refl, tt)
onto_parts at b other (part ∷ parts) are = (rw other are.0, are.1)

pub parts_cut : (at : ℕ) (text : List ℕ) → AreParts at (cut_by at text)
parts_cut at [] = (refl, tt)
parts_cut at (b ∷ text) = elim (cases_Bool (b == at)) [
  | inl is ↦ subst (AreParts at) (sym (slice_split-cons_yes (λ c. c == at) b text is)) (refl, parts_cut at text)
  | inr other ↦
      subst (AreParts at) (sym (slice_split-cons_no (λ c. c == at) b text other)) (onto_parts at b other (cut_by at text) (parts_cut at text))
]

pub cut_some : (at : ℕ) (text : List ℕ) → 1 ≤ length (cut_by at text)
cut_some at text = omega (arith, length-slice_split (λ b. b == at) text)

onto_both : (b : ℕ) (front rest : List (List ℕ)) → 1 ≤ length front → onto_first b (front ++ rest) ≡ onto_first b front ++ rest
onto_both b [] rest some = absurd (omega (arith, some))
onto_both b (part ∷ front) rest some = refl

-- texts with the byte between them
cut_both : (at : ℕ) (front rest : List ℕ) → cut_by at (front ++ at ∷ rest) ≡ cut_by at front ++ cut_by at rest
cut_both at [] rest = slice_split-cons_yes (λ c. c == at) at rest (eq-eqb at at refl)
cut_both at (b ∷ front) rest = elim (cases_Bool (b == at)) [
  | inl is ↦
      slice_split-cons_yes (λ c. c == at) b (front ++ at ∷ rest) is ∙ ap (λ (ps : List (List ℕ)). [] ∷ ps) (cut_both at front rest)
      ∙ ap (λ (ps : List (List ℕ)). ps ++ cut_by at rest) (sym (slice_split-cons_yes (λ c. c == at) b front is))
  | inr other ↦
      slice_split-cons_no (λ c. c == at) b (front ++ at ∷ rest) other ∙ ap (onto_first b) (cut_both at front rest)
      ∙ onto_both b (cut_by at front) (cut_by at rest) (cut_some at front)
      ∙ ap (λ (ps : List (List ℕ)). ps ++ cut_by at rest) (sym (slice_split-cons_no (λ c. c == at) b front other))
]

pub cut_texts : (at : ℕ) (text : List ℕ) (texts : List (List ℕ)) → AreParts at (text ∷ texts)
    → cut_by at (join_with_byte at (text ∷ texts)) ≡ text ∷ texts
cut_texts at text [] are = split_none at text are.0
cut_texts at text (other ∷ texts) are =
    split_first at text (join_with_byte at (other ∷ texts)) are.0 ∙ ap (λ (ts : List (List ℕ)). text ∷ ts) (cut_texts at other texts are.1)

or_parts : (first rest : Bool) → (first || rest) ≡ false → (first ≡ false) × (rest ≡ false)
or_parts true rest e = absurd (true≢false e)
or_parts false rest e = (refl, e)

pub has_byte-parts : (at : ℕ) (front rest : List ℕ) → has_byte at (front ++ rest) ≡ false
    → (has_byte at front ≡ false) × (has_byte at rest ≡ false)
has_byte-parts at front rest none = or_parts (has_byte at front) (has_byte at rest) (sym (has_byte-append at front rest) ∙ none)

-- what joined texts avoid each of them avoids
pub joined_avoid : (at between : ℕ) (texts : List (List ℕ)) → has_byte at (join_with_byte between texts) ≡ false → AreParts at texts
joined_avoid at between [] none = tt
joined_avoid at between (text ∷ []) none = (none, tt)
joined_avoid at between (text ∷ other ∷ texts) none =
    let parts = has_byte-parts at text (between ∷ join_with_byte between (other ∷ texts)) none in
    let rest = or_parts (between == at) (has_byte at (join_with_byte between (other ∷ texts))) parts.1 in
    (parts.0, joined_avoid at between (other ∷ texts) rest.1)

pub avoid_joined : (at between : ℕ) (texts : List (List ℕ)) → (between == at) ≡ false → AreParts at texts
    → has_byte at (join_with_byte between texts) ≡ false
avoid_joined at between [] other are = refl
avoid_joined at between (text ∷ []) other are = are.0
avoid_joined at between (text ∷ second ∷ texts) other are =
    has_byte-append at text (between ∷ join_with_byte between (second ∷ texts))
    ∙ rw (are.0, other) (avoid_joined at between (second ∷ texts) other are.1)

-- CELLS AND THEIR BLOCKS

abbrev IsCell : (digits : ℕ) → List ℕ → Type 0
IsCell digits text = (cell : (ℕ × ℕ) × List ℕ) × ((loose_cell digits).value text ≡ Some cell)

-- what stands behind a cell doesn't change its place
more_cell : (digits : ℕ) (text more : List ℕ) (cell : (ℕ × ℕ) × List ℕ) → (loose_cell digits).value text ≡ Some cell
    → (loose_cell digits).value (text ++ more) ≡ Some (cell.0, cell.1 ++ more)
more_cell digits text more cell e =
    let is = (loose_cell_is_exact digits).only text cell e in
    let long : 1 ≤ length (cell.1 ++ more) = omega (arith, is.0.1, length-append cell.1 more) in
    let same : text ++ more ≡ (loose_cell digits).text (cell.0, cell.1 ++ more) =
    ap (λ (t : List ℕ). t ++ more) (sym is.1) ∙ append_assoc _ (58 ∷ cell.1) more in
    ap (loose_cell digits).value same ∙ (loose_cell_is_exact digits).back (cell.0, cell.1 ++ more) (is.0.0, long)

more_block : (digits : ℕ) (text more : List ℕ) → IsCell digits text → block_in digits (text ++ more) ≡ block_in digits text
unfolding block_in
more_block digits text more is =
    ap (λ found. place_by found / 32) (more_cell digits text more is.0 is.1) ∙ ap (λ found. place_by found / 32) (sym is.1)

module _ (digits : ℕ) where
  abbrev block : List ℕ → ℕ
  block text = block_in digits text

  -- the first of cells that ascend
  pub record Ascends (from : ℕ) (cell : List ℕ) (cells : List (List ℕ)) : Type 0 where
    pub found : (ℕ × ℕ) × List ℕ
    pub is : (loose_cell digits).value cell ≡ Some found
    pub above : from ≤ found.0.0
    pub rest : ascend digits (found.0.0 + 1) cells ≡ true

  cell_found : (from : ℕ) (cell : List ℕ) (cells : List (List ℕ)) (found : Option ((ℕ × ℕ) × List ℕ)) → (loose_cell digits).value cell ≡ found
      → follows from found (λ place. ascend digits (place + 1) cells) ≡ true → Ascends from cell cells
  cell_found from cell cells None is e = absurd (false≢true e)
  cell_found from cell cells (Some found) is e =
      let parts = and_parts (nat_le from found.0.0) (ascend digits (found.0.0 + 1) cells) e in
      record { found = found; is = is; above = leb-true from found.0.0 parts.0; rest = parts.1 }

  first_cell : (from : ℕ) (cell : List ℕ) (cells : List (List ℕ)) → ascend digits from (cell ∷ cells) ≡ true → Ascends from cell cells
  first_cell from cell cells e = cell_found from cell cells ((loose_cell digits).value cell) refl e

  ascend_so : (from : ℕ) (cell : List ℕ) (cells : List (List ℕ)) → Ascends from cell cells → ascend digits from (cell ∷ cells) ≡ true
  ascend_so from cell cells is =
      ap (λ found. follows from found (λ place. ascend digits (place + 1) cells)) is.is
      ∙ and_from (nat_le from is.found.0.0) (ascend digits (is.found.0.0 + 1) cells) (le-leb from is.found.0.0 is.above) is.rest

  ascend_low : (from low : ℕ) → low ≤ from → (cells : List (List ℕ)) → ascend digits from cells ≡ true → ascend digits low cells ≡ true
  ascend_low from low under [] e = refl
  ascend_low from low under (cell ∷ cells) e =
      let is = first_cell from cell cells e in
      ascend_so low cell cells (record { found = is.found; is = is.is; above = omega (arith, is.above, under); rest = is.rest })

  -- a text begins with the first of its cells
  starts : (from : ℕ) (cells : List (List ℕ)) → 1 ≤ length cells → ascend digits from cells ≡ true
      → (found : (ℕ × ℕ) × List ℕ) × ((loose_cell digits).value (join_with_byte 59 cells) ≡ Some found) × (from ≤ found.0.0)
  starts from [] some e = absurd (omega (arith, some))
  starts from (cell ∷ []) some e = let is = first_cell from cell [] e in (is.found, is.is, is.above)
  starts from (cell ∷ other ∷ cells) some e =
      let is = first_cell from cell (other ∷ cells) e in
      let more = 59 ∷ join_with_byte 59 (other ∷ cells) in
      ((is.found.0, is.found.1 ++ more), more_cell digits cell more is.found is.is, is.above)

  pub page_starts : (from : ℕ) (page : Page) → ascend digits from (cut_by 59 page) ≡ true
      → (found : (ℕ × ℕ) × List ℕ) × ((loose_cell digits).value page ≡ Some found) × (from ≤ found.0.0)
  page_starts from page e =
      let is = starts from (cut_by 59 page) (cut_some 59 page) e in
      (is.0, ap (loose_cell digits).value (sym (join_with_byte-slice_split 59 page)) ∙ is.1, is.2)

  -- PAGES

  -- cells that ascend in one block
  pub record IsPage (from : ℕ) (page : Page) : Type 0 where
    pub ascends : ascend digits from (cut_by 59 page) ≡ true
    pub one : in_one_block digits page ≡ true

  -- pages whose cells ascend from an address on
  abbrev pub ArePages : (from : ℕ) → List Page → Type 0
  ArePages from [] = Unit {0}
  ArePages from (page ∷ pages) = IsPage from page × Climb digits (block_in digits page + 1) pages × AllByRecursion (IsPage 0) pages

  page_low : (from : ℕ) (page : Page) → IsPage from page → IsPage 0 page
  page_low from page is = record { ascends = ascend_low from 0 (omega arith) (cut_by 59 page) is.ascends; one = is.one }

  -- the first cell of a page, or one in front of it
  alone : (from : ℕ) (cell : List ℕ) → has_byte 59 cell ≡ false → Ascends from cell [] → IsPage from cell
  alone from cell none is = record {
    ascends = ap (ascend digits from) (split_none 59 cell none) ∙ ascend_so from cell [] is;
    one = ap (list_all (λ c. block_in digits c == block_in digits cell)) (split_none 59 cell none)
        ∙ and_from (block_in digits cell == block_in digits cell) true (eq-eqb (block_in digits cell) (block_in digits cell) refl) refl;
  }

  in_front : (from : ℕ) (cell : List ℕ) (page : Page) → has_byte 59 cell ≡ false → Ascends from cell (cut_by 59 page)
      → (block_in digits cell == block_in digits page) ≡ true → in_one_block digits page ≡ true → IsPage from (cell ++ 59 ∷ page)
  in_front from cell page none is same one =
      let whole = cell ++ 59 ∷ page in
      let cut = split_first 59 cell page none in
      let first : block_in digits whole ≡ block_in digits cell = more_block digits cell (59 ∷ page) (is.found, is.is) in
      let both : block_in digits page ≡ block_in digits whole = sym (first ∙ eqb-true (block_in digits cell) (block_in digits page) same) in
      record {
        ascends = ap (ascend digits from) cut ∙ ascend_so from cell (cut_by 59 page) is;
        one = ap (list_all (λ c. block_in digits c == block_in digits whole)) cut
            ∙ and_from (block_in digits cell == block_in digits whole) (list_all (λ c. block_in digits c == block_in digits whole) (cut_by 59 page))
            (eq-eqb (block_in digits cell) (block_in digits whole) (sym first))
            (subst (λ n. list_all (λ c. block_in digits c == n) (cut_by 59 page) ≡ true) both one);
      }

  -- the block of a place is at most that of a greater one
  block_low : (cell : List ℕ) (page : Page) (found start : (ℕ × ℕ) × List ℕ) → (loose_cell digits).value cell ≡ Some found
      → (loose_cell digits).value page ≡ Some start → found.0.0 + 1 ≤ start.0.0 → block_in digits cell ≤ block_in digits page
  unfolding block_in
  block_low cell page found start is starts_so above =
      let first : place_by ((loose_cell digits).value cell) / 32 ≡ found.0.0 / 32 = ap (λ o. place_by o / 32) is in
      let second : place_by ((loose_cell digits).value page) / 32 ≡ start.0.0 / 32 = ap (λ o. place_by o / 32) starts_so in
      omega (arith, first, second, above)

  onto_same : (cell : List ℕ) (page : Page) (pages : List Page) → (block_in digits cell == block_in digits page) ≡ true
      → onto_pages digits cell (page ∷ pages) ≡ (cell ++ 59 ∷ page) ∷ pages
  onto_same cell page pages same = rw same refl

  onto_other : (cell : List ℕ) (page : Page) (pages : List Page) → (block_in digits cell == block_in digits page) ≡ false
      → onto_pages digits cell (page ∷ pages) ≡ cell ∷ page ∷ pages
  onto_other cell page pages other = rw other refl

  onto_are : (from : ℕ) (cell : List ℕ) (found : (ℕ × ℕ) × List ℕ) (pages : List Page) → has_byte 59 cell ≡ false
      → (loose_cell digits).value cell ≡ Some found → from ≤ found.0.0 → ArePages (found.0.0 + 1) pages → ArePages from (onto_pages digits cell pages)
  onto_are from cell found [] none is above are =
      (alone from cell none (record { found = found; is = is; above = above; rest = refl }), tt, tt)
  onto_are from cell found (page ∷ pages) none is above are = elim (cases_Bool (block_in digits cell == block_in digits page)) [
    | inl same ↦
        let one = in_front from cell page none (record { found = found; is = is; above = above; rest = are.0.ascends }) same are.0.one in
        let first : block_in digits (cell ++ 59 ∷ page) ≡ block_in digits page =
        more_block digits cell (59 ∷ page) (found, is) ∙ eqb-true (block_in digits cell) (block_in digits page) same in
        subst (ArePages from) (sym (onto_same cell page pages same)) (one, subst (λ n. Climb digits (n + 1) pages) (sym first) are.1, are.2)
    | inr other ↦
        let begin = page_starts (found.0.0 + 1) page are.0.ascends in
        let low = block_low cell page found begin.0 is begin.1 begin.2 in
        let differ = eqb-false (block_in digits cell) (block_in digits page) other in
        let next : nat_le (block_in digits cell + 1) (block_in digits page) ≡ true =
        le-leb (block_in digits cell + 1) (block_in digits page) (omega (arith, low, differ)) in
        subst (ArePages from) (sym (onto_other cell page pages other)) (
          alone from cell none (record { found = found; is = is; above = above; rest = refl }),
          (next, are.1),
          (page_low (found.0.0 + 1) page are.0, are.2),
        )
  ]

  -- the pages of cells that ascend
  pub pages_are : (from : ℕ) (cells : List (List ℕ)) → AreParts 59 cells → ascend digits from cells ≡ true → ArePages from (pages_of digits cells)
  pages_are from [] parts e = tt
  pages_are from (cell ∷ cells) parts e =
      let is = first_cell from cell cells e in
      onto_are from cell is.found (pages_of digits cells) parts.0 is.is is.above (pages_are (is.found.0.0 + 1) cells parts.1 is.rest)

  -- THE CELLS AGAIN

  -- a page at least
  pub record HasFirst (pages : List Page) : Type 0 where
    pub first : Page
    pub rest : List Page
    pub are : pages ≡ first ∷ rest

  onto_some : (cell : List ℕ) (pages : List Page) → HasFirst (onto_pages digits cell pages)
  onto_some cell [] = record { first = cell; rest = []; are = refl }
  onto_some cell (page ∷ pages) = elim (cases_Bool (block_in digits cell == block_in digits page)) [
    | inl same ↦ record { first = cell ++ 59 ∷ page; rest = pages; are = onto_same cell page pages same }
    | inr other ↦ record { first = cell; rest = page ∷ pages; are = onto_other cell page pages other }
  ]

  pub some_pages : (cells : List (List ℕ)) → 1 ≤ length cells → HasFirst (pages_of digits cells)
  some_pages [] some = absurd (omega (arith, some))
  some_pages (cell ∷ cells) some = onto_some cell (pages_of digits cells)

  in_front_joined : (cell : List ℕ) (page : Page) (pages : List Page)
      → join_with_byte 59 ((cell ++ 59 ∷ page) ∷ pages) ≡ cell ++ 59 ∷ join_with_byte 59 (page ∷ pages)
  in_front_joined cell page [] = refl
  in_front_joined cell page (other ∷ pages) = append_assoc cell (59 ∷ page) (59 ∷ join_with_byte 59 (other ∷ pages))

  onto_joined : (cell : List ℕ) (page : Page) (pages : List Page)
      → join_with_byte 59 (onto_pages digits cell (page ∷ pages)) ≡ cell ++ 59 ∷ join_with_byte 59 (page ∷ pages)
  onto_joined cell page pages = elim (cases_Bool (block_in digits cell == block_in digits page)) [
    | inl same ↦ ap (join_with_byte 59) (onto_same cell page pages same) ∙ in_front_joined cell page pages
    | inr other ↦ ap (join_with_byte 59) (onto_other cell page pages other)
  ]

  pub pages_joined : (cells : List (List ℕ)) → join_with_byte 59 (pages_of digits cells) ≡ join_with_byte 59 cells
  pages_joined [] = refl
  pages_joined (cell ∷ []) = refl
  pages_joined (cell ∷ other ∷ cells) =
      let more = some_pages (other ∷ cells) (omega arith) in
      ap (λ ps. join_with_byte 59 (onto_pages digits cell ps)) more.are ∙ onto_joined cell more.first more.rest
      ∙ ap (λ (t : List ℕ). cell ++ 59 ∷ t) (ap (join_with_byte 59) (sym more.are) ∙ pages_joined (other ∷ cells))

  -- THE PAGES AGAIN

  -- the first of pages isn't of the block
  abbrev Differs : (number : ℕ) → List Page → Type 0
  Differs number [] = Unit {0}
  Differs number (page ∷ pages) = (number == block_in digits page) ≡ false

  abbrev InBlock : (number : ℕ) → List (List ℕ) → Type 0
  InBlock number cells = AllByRecursion (λ cell. IsCell digits cell × (block_in digits cell ≡ number)) cells

  in_block : (number from : ℕ) (cells : List (List ℕ)) → ascend digits from cells ≡ true
      → list_all (λ cell. block_in digits cell == number) cells ≡ true → InBlock number cells
  in_block number from [] e one = tt
  in_block number from (cell ∷ cells) e one =
      let is = first_cell from cell cells e in
      let parts = and_parts (block_in digits cell == number) (list_all (λ c. block_in digits c == number) cells) one in
      (((is.found, is.is), eqb-true (block_in digits cell) number parts.0), in_block number (is.found.0.0 + 1) cells is.rest parts.1)

  first_block : (number : ℕ) (cell : List ℕ) (cells : List (List ℕ)) → InBlock number (cell ∷ cells)
      → block_in digits (join_with_byte 59 (cell ∷ cells)) ≡ number
  first_block number cell [] are = are.0.1
  first_block number cell (other ∷ cells) are = more_block digits cell (59 ∷ join_with_byte 59 (other ∷ cells)) are.0.0 ∙ are.0.1

  apart : (number : ℕ) (cell : List ℕ) → block_in digits cell ≡ number → (pages : List Page) → Differs number pages
      → onto_pages digits cell pages ≡ cell ∷ pages
  apart number cell is [] differ = refl
  apart number cell is (page ∷ pages) differ =
      onto_other cell page pages (ap (λ n. n == block_in digits page) is ∙ differ)

  together : (cell : List ℕ) (page : Page) (pages : List Page) → block_in digits cell ≡ block_in digits page
      → onto_pages digits cell (page ∷ pages) ≡ (cell ++ 59 ∷ page) ∷ pages
  together cell page pages is = rw (eq-eqb (block_in digits cell) (block_in digits page) is) refl

  one_page : (number : ℕ) (cell : List ℕ) (cells rest : List (List ℕ)) (pages : List Page) → InBlock number (cell ∷ cells)
      → pages_of digits rest ≡ pages → Differs number pages
      → pages_of digits ((cell ∷ cells) ++ rest) ≡ join_with_byte 59 (cell ∷ cells) ∷ pages
  one_page number cell [] rest pages are is differ = ap (onto_pages digits cell) is ∙ apart number cell are.0.1 pages differ
  one_page number cell (other ∷ cells) rest pages are is differ =
      let page = join_with_byte 59 (other ∷ cells) in
      ap (onto_pages digits cell) (one_page number other cells rest pages are.1 is differ)
      ∙ together cell page pages (are.0.1 ∙ sym (first_block number other cells are.1))

  page_again : (page : Page) (cells : List (List ℕ)) → cut_by 59 page ≡ cells → 1 ≤ length cells → InBlock (block_in digits page) cells
      → (rest : List (List ℕ)) (pages : List Page) → pages_of digits rest ≡ pages → Differs (block_in digits page) pages
      → pages_of digits (cut_by 59 page ++ rest) ≡ page ∷ pages
  page_again page [] cut some are rest pages is differ = absurd (omega (arith, some))
  page_again page (cell ∷ cells) cut some are rest pages is differ =
      ap (λ (cs : List (List ℕ)). pages_of digits (cs ++ rest)) cut
      ∙ one_page (block_in digits page) cell cells rest pages are is differ
      ∙ ap (λ (p : Page). p ∷ pages) (ap (join_with_byte 59) (sym cut) ∙ join_with_byte-slice_split 59 page)

  climb_differs : (page : Page) (pages : List Page) → Climb digits (block_in digits page + 1) pages → Differs (block_in digits page) pages
  climb_differs page [] climb = tt
  climb_differs page (other ∷ pages) climb =
      let above = leb-true (block_in digits page + 1) (block_in digits other) climb.0 in
      ne_eqb (block_in digits page) (block_in digits other) (λ e. omega (arith, above, e))

  pub pages_again : (page : Page) (pages : List Page) → AllByRecursion (IsPage 0) (page ∷ pages) → Climb digits (block_in digits page + 1) pages
      → pages_of digits (cut_by 59 (join_with_byte 59 (page ∷ pages))) ≡ page ∷ pages
  pages_again page [] are climb =
      let cells = in_block (block_in digits page) 0 (cut_by 59 page) are.0.ascends are.0.one in
      ap (pages_of digits) (sym (append-nil (cut_by 59 page)))
      ∙ page_again page (cut_by 59 page) refl (cut_some 59 page) cells [] [] refl tt
  pages_again page (other ∷ pages) are climb =
      let cells = in_block (block_in digits page) 0 (cut_by 59 page) are.0.ascends are.0.one in
      let more = pages_again other pages are.1 climb.1 in
      ap (pages_of digits) (cut_both 59 page (join_with_byte 59 (other ∷ pages)))
      ∙ page_again page (cut_by 59 page) refl (cut_some 59 page) cells (cut_by 59 (join_with_byte 59 (other ∷ pages))) (other ∷ pages)
      more (climb_differs page (other ∷ pages) climb)

  -- THE WHOLE FIELD

  -- a text that begins with a cell isn't a dash
  no_dash : (text : List ℕ) (found : (ℕ × ℕ) × List ℕ) → (loose_cell digits).value text ≡ Some found → bytes_eq text (codes "-") ≡ false
  no_dash text found is = elim (cases_Bool (bytes_eq text (codes "-"))) [
    | inl same ↦ absurd (none-some found (sym (ap (loose_cell digits).value (bytes_are text (codes "-") same)) ∙ is))
    | inr other ↦ other
  ]

  within_dash : (cells : List ℕ) → bytes_eq cells (codes "-") ≡ true → pages_within digits cells ≡ []
  within_dash cells same = rw same refl

  within_cells : (cells : List ℕ) → bytes_eq cells (codes "-") ≡ false → pages_within digits cells ≡ pages_of digits (cut_by 59 cells)
  within_cells cells other = rw other refl

  pub field_back : (cells : List ℕ) → dashed 59 (pages_within digits cells) ≡ cells
  field_back cells = elim (cases_Bool (bytes_eq cells (codes "-"))) [
    | inl same ↦ ap (dashed 59) (within_dash cells same) ∙ sym (bytes_are cells (codes "-") same)
    | inr other ↦
        let some = some_pages (cut_by 59 cells) (cut_some 59 cells) in
        ap (dashed 59) (within_cells cells other) ∙ ap (dashed 59) some.are ∙ ap (join_with_byte 59) (sym some.are)
        ∙ pages_joined (cut_by 59 cells) ∙ join_with_byte-slice_split 59 cells
  ]

  begins : (first : Page) (more : List Page) (found : (ℕ × ℕ) × List ℕ) → (loose_cell digits).value first ≡ Some found
      → IsCell digits (join_with_byte 59 (first ∷ more))
  begins first [] found is = (found, is)
  begins first (second ∷ more) found is =
      let behind = 59 ∷ join_with_byte 59 (second ∷ more) in
      ((found.0, found.1 ++ behind), more_cell digits first behind found is)

  pub field_only : (least : ℕ) (pages : List Page) → AllByRecursion (IsPage 0) pages → Climb digits least pages
      → pages_within digits (dashed 59 pages) ≡ pages
  field_only least [] are climb = refl
  field_only least (page ∷ pages) are climb =
      let again = pages_again page pages are climb.1 in
      let begin = page_starts 0 page are.0.ascends in
      let text = join_with_byte 59 (page ∷ pages) in
      let cut = begins page pages begin.0 begin.1 in
      rw (no_dash text cut.0 cut.1) again

  pub field_pages : (cells : List ℕ) → are_cells digits cells ≡ true → ArePages 0 (pages_within digits cells)
  field_pages cells are = elim (cases_Bool (bytes_eq cells (codes "-"))) [
    | inl same ↦ subst (ArePages 0) (sym (within_dash cells same)) tt
    | inr other ↦
        subst (ArePages 0) (sym (within_cells cells other)) (pages_are 0 (cut_by 59 cells) (parts_cut 59 cells) (rw other at are))
  ]

  all_climb : (from : ℕ) (pages : List Page) → ArePages from pages → Climb digits 0 pages × AllByRecursion (IsPage 0) pages
  all_climb from [] are = (tt, tt)
  all_climb from (page ∷ pages) are = ((le-leb 0 (block_in digits page) (omega arith), are.1), (page_low from page are.0, are.2))

  pub field_climbs : (cells : List ℕ) → are_cells digits cells ≡ true
      → Climb digits 0 (pages_within digits cells) × AllByRecursion (IsPage 0) (pages_within digits cells)
  field_climbs cells are = all_climb 0 (pages_within digits cells) (field_pages cells are)

  -- the test of a page
  pub page_is : (text : List ℕ) → is_page digits text ≡ true → (has_byte 32 text ≡ false) × IsPage 0 text
  page_is text e =
      let parts = and_parts (not (has_byte 32 text)) (ascend digits 0 (cut_by 59 text) && in_one_block digits text) e in
      let rest = and_parts (ascend digits 0 (cut_by 59 text)) (in_one_block digits text) parts.1 in
      (not-true (has_byte 32 text) parts.0, record { ascends = rest.0; one = rest.1 })

  pub is_page_so : (text : List ℕ) → has_byte 32 text ≡ false → IsPage 0 text → is_page digits text ≡ true
  is_page_so text none is =
      rw none (and_from (ascend digits 0 (cut_by 59 text)) (in_one_block digits text) is.ascends is.one)
