-- Making pages of pages, one by one.
use Rattle.std.proofs.Common.{◌≡◌, ℕ, ◌+◌, ◌/◌, ◌<◌, ◌≤◌, ◌++◌, refl, sym, ap, ◌∙◌, subst, Bool, Option, None, Some, List, [], ◌∷◌, length, get_or, drop, append-nil, append_assoc, arith}
use Rattle.std.specs.Prelude.{◌&&◌}
use Rattle.std.proofs.lemmas.List.{drop_more, drop_all}
use Rattle.entry_value.specs.declared.cells.Cell.{Cell}
use Rattle.entry_value.specs.CellLists.{Each, OfSome, each_kept}
use Rattle.entry_value.specs.Cells.{are_within, kept}
use Rattle.abs_pages.specs.Paging.{ArePages, KeepsPlaces, MadeOf, Paged, EachPage, HasBounds, IsPage, Rise, flat}
use Rattle.abs_pages.proofs.Lists.{kept_append, within_append}

flat_push : (pages : List Paged) (page : Paged) → flat (pages ++ page ∷ []) ≡ flat pages ++ page.map.cells
flat_push [] page = append-nil page.map.cells
flat_push (p ∷ pages) page = ap (λ rest. p.map.cells ++ rest) (flat_push pages page) ∙ sym (append_assoc p.map.cells (flat pages) page.map.cells)

each_push : (P : Paged → Type 0) (pages : List Paged) (page : Paged) → EachPage P pages → P page → EachPage P (pages ++ page ∷ [])
each_push P [] page h own = (own, tt)
each_push P (p ∷ pages) page h own = (h.0, each_push P pages page h.1 own)

rise_push : (from : ℕ) (pages : List Paged) (page : Paged) → Rise from pages
    → EachPage (λ p. p.number < page.number) pages → from ≤ page.number
    → Rise from (pages ++ page ∷ [])
rise_push from [] page h below le = (le, tt)
rise_push from (p ∷ pages) page h below le = (h.0, rise_push (p.number + 1) pages page h.1 below.1 (omega (arith, below.0)))

each_page_then : (P Q : Paged → Type 0) (pages : List Paged) → ((page : Paged) → P page → Q page) → EachPage P pages → EachPage Q pages
each_page_then P Q [] f h = tt
each_page_then P Q (page ∷ pages) f h = (f page h.0, each_page_then P Q pages f h.1)

-- The pages so far are those of the cells that were made of the first pages, and what is left makes the rest.
pub record Passed (f : Cell → Option Cell) (lo hi : ℕ) (pages : List Paged) (i : ℕ) (all : List Paged) : Type 0 where
  pub from : ℕ
  pub left : Rise from (drop i pages)
  pub below : EachPage (λ page. page.number < from) all
  pub made : ArePages lo hi all
  pub value : flat all ++ kept f (flat (drop i pages)) ≡ kept f (flat pages)

pub pass_begins : (f : Cell → Option Cell) (lo hi : ℕ) (pages : List Paged) → ArePages lo hi pages → Passed f lo hi pages 0 []
pass_begins f lo hi pages are = record {
  from = 0;
  left = are.rise;
  below = tt;
  made = record { rise = tt; each = tt; bounds = tt };
  value = refl;
}

-- the cells that are left, of the next page and of those behind it
pub flat_here : (pages : List Paged) (i : ℕ) (page : Paged) → i < length pages → page ≡ get_or pages i page
    → flat (drop i pages) ≡ page.map.cells ++ flat (drop (i + 1) pages)
flat_here pages i page lt is = ap flat (drop_more pages i page lt ∙ ap (λ (p : Paged). p ∷ drop (i + 1) pages) (sym is))

rest_kept : (f : Cell → Option Cell) (pages : List Paged) (i : ℕ) (page : Paged) → i < length pages → page ≡ get_or pages i page
    → kept f (flat (drop i pages)) ≡ kept f page.map.cells ++ kept f (flat (drop (i + 1) pages))
rest_kept f pages i page lt is =
    ap (kept f) (flat_here pages i page lt is) ∙ kept_append f page.map.cells (flat (drop (i + 1) pages))

rest_rises : (from : ℕ) (pages : List Paged) (i : ℕ) (page : Paged) → i < length pages → page ≡ get_or pages i page
    → Rise from (drop i pages)
    → (from ≤ page.number) × Rise (page.number + 1) (drop (i + 1) pages)
rest_rises from pages i page lt is rise = subst (Rise from) (drop_more pages i page lt ∙ ap (λ (p : Paged). p ∷ drop (i + 1) pages) (sym is)) rise

pub pass_over : (f : Cell → Option Cell) (lo hi : ℕ) (pages : List Paged) (i : ℕ) (all : List Paged) (page : Paged)
    → i < length pages → page ≡ get_or pages i page
    → kept f page.map.cells ≡ [] → Passed f lo hi pages i all → Passed f lo hi pages (i + 1) all
pass_over f lo hi pages i all page lt is none passed =
    let rises = rest_rises passed.from pages i page lt is passed.left in
    record {
      from = page.number + 1;
      left = rises.1;
      below = each_page_then (λ p. p.number < passed.from) (λ p. p.number < page.number + 1) all (λ p h. omega (arith, h, rises.0)) passed.below;
      made = passed.made;
      value =
          ap (λ rest. flat all ++ rest)
          (sym (rest_kept f pages i page lt is ∙ ap (λ front. front ++ kept f (flat (drop (i + 1) pages))) none)) ∙ passed.value;
    }

some_inside : (number : ℕ) (cell : Cell) (found : Option Cell) → cell.place / 32 ≡ number → OfSome (λ made. made.place ≡ cell.place) found
    → OfSome (λ made. made.place / 32 ≡ number) found
some_inside number cell None here keeps = tt
some_inside number cell (Some made) here keeps = ap (λ (n : ℕ). n / 32) keeps ∙ here

made_inside : (f : Cell → Option Cell) (number : ℕ) (cells : List Cell) → KeepsPlaces f → Each (λ cell. cell.place / 32 ≡ number) cells
    → Each (λ cell. cell.place / 32 ≡ number) (kept f cells)
made_inside f number cells keeps inside =
    each_kept (λ cell. cell.place / 32 ≡ number) (λ cell. cell.place / 32 ≡ number) f cells (λ cell here. some_inside number cell (f cell) here (keeps cell)) inside

pub pass_on : (f : Cell → Option Cell) (lo hi : ℕ) (pages : List Paged) (i : ℕ) (all : List Paged) (page made : Paged)
    → i < length pages → page ≡ get_or pages i page
    → KeepsPlaces f → IsPage page → HasBounds lo hi page → MadeOf page (kept f page.map.cells) (Some made) → Passed f lo hi pages i all
    → Passed f lo hi pages (i + 1) (all ++ made ∷ [])
pass_on f lo hi pages i all page made lt is keeps form bounds (made_is, some) passed =
    let rises = rest_rises passed.from pages i page lt is passed.left in
    let number : made.number ≡ page.number = ap (λ (p : Paged). p.number) made_is in
    let cells : made.map.cells ≡ kept f page.map.cells = ap (λ (p : Paged). p.map.cells) made_is in
    let own : IsPage made = record {
      some = λ none. some (sym cells ∙ none);
      inside = subst (λ (p : Paged). Each (λ cell. cell.place / 32 ≡ p.number) p.map.cells) (sym made_is) (made_inside f page.number page.map.cells keeps form.inside);
    } in
    record {
      from = page.number + 1;
      left = rises.1;
      below =
          each_push (λ p. p.number < page.number + 1) all made
          (each_page_then (λ p. p.number < passed.from) (λ p. p.number < page.number + 1) all (λ p h. omega (arith, h, rises.0)) passed.below) (omega (arith, number));
      made = record {
        rise =
            rise_push 0 all made passed.made.rise
            (each_page_then (λ p. p.number < passed.from) (λ p. p.number < made.number) all (λ p h. omega (arith, h, rises.0, number)) passed.below) (omega arith);
        each = each_push IsPage all made passed.made.each own;
        bounds = each_push (HasBounds lo hi) all made passed.made.bounds (subst (HasBounds lo hi) (sym made_is) bounds);
      };
      value =
          ap (λ front. front ++ kept f (flat (drop (i + 1) pages))) (flat_push all made ∙ ap (λ own_cells. flat all ++ own_cells) cells)
          ∙ (append_assoc (flat all) (kept f page.map.cells) (kept f (flat (drop (i + 1) pages)))
          ∙ (ap (λ rest. flat all ++ rest) (sym (rest_kept f pages i page lt is)) ∙ passed.value));
    }

pub pass_ends : (f : Cell → Option Cell) (lo hi : ℕ) (pages : List Paged) (i : ℕ) (all : List Paged) → length pages ≤ i
    → Passed f lo hi pages i all → flat all ≡ kept f (flat pages)
pass_ends f lo hi pages i all le passed =
    sym (append-nil (flat all)) ∙ (ap (λ rest. flat all ++ kept f (flat rest)) (sym (drop_all i pages le)) ∙ passed.value)

-- BEING WITHIN

pub within_here : (new : List Cell) (pages : List Paged) (i : ℕ) (page : Paged) (found : Bool) → i < length pages
    → page ≡ get_or pages i page
    → are_within new page.map.cells ≡ found → are_within new (flat (drop i pages)) ≡ (found && are_within new (flat (drop (i + 1) pages)))
within_here new pages i page found lt is e =
    ap (are_within new) (flat_here pages i page lt is)
    ∙ (within_append new page.map.cells (flat (drop (i + 1) pages)) ∙ ap (λ answer. answer && are_within new (flat (drop (i + 1) pages))) e)
