-- Texts that name their pages are the texts again, once they are filled, and no other text is filled to one.
use Rattle.std.specs.Prelude.{◌≡◌, ℕ, ◌+◌, ◌<◌, ◌≤◌, ◌==◌, ◌&&◌, ◌||◌, if◌then◌else◌, Bool, true, false, Option, None, Some, option_map, List, [], ◌∷◌, ◌++◌, codes, length, map}
use Rattle.std.specs.List.{AllByRecursion, join_with_byte}
use Rattle.std.specs.Str.{bytes_eq}
use Rattle.std.proofs.Common.{refl, sym, ap, ap₂, ◌∙◌, subst, inl, inr, arith, append_assoc}
use Rattle.std.proofs.lemmas.Bool.{cases_Bool, false≢true, true≢false}
use Rattle.std.proofs.lemmas.List.Splits.{join_with_byte-slice_split}
use Rattle.std.proofs.lemmas.Option.{none-some, same_Some}
use Rattle.text_fields.specs.Lines.{IsOneLine}
use Rattle.text_fields.specs.Spelling.{has_byte, has_byte-append, has_byte-both, map_only}
use Rattle.state_text.specs.Cells.{Parts, are_loose, are_loose_in, cells_again, cells_are, cells_in, whole}
use Rattle.cert_pages.specs.Numbers.{name_avoids}
use Rattle.cert_pages.specs.Pages.{Page, Filled, cut_by, dashed, filled, filled_by, has_page, is_page, named_by, named_in, names_in, page_name, pages_by, pages_named, pages_on, pages_within, number_in, with_cells, with_page, with_pages}
use Rattle.cert_pages.specs.Numbered.{AreApart, Climb, all_in_turn, apart_more, bytes_are, names_back, names_only}
use Rattle.cert_pages.specs.Blocks.{AreParts, IsPage, avoid_joined, cut_some, cut_texts, field_back, field_climbs, field_only, has_byte-parts, is_page_so, joined_avoid, page_is}

-- NAMES IN THE PLACE OF CELLS

names_avoid : (at : ℕ) → at < 48 → (pages named : List Page) → AreParts at (map (page_name pages) named)
names_avoid at low pages [] = tt
names_avoid at low pages (page ∷ named) = (name_avoids at low (number_in 0 pages page), names_avoid at low pages named)

dashed_avoids : (at between : ℕ) (texts : List (List ℕ)) → has_byte at (codes "-") ≡ false → (between == at) ≡ false → AreParts at texts
    → has_byte at (dashed between texts) ≡ false
dashed_avoids at between [] no_dash other are = no_dash
dashed_avoids at between (text ∷ texts) no_dash other are = avoid_joined at between (text ∷ texts) other are

dashed_parts : (at between : ℕ) (texts : List (List ℕ)) → has_byte at (dashed between texts) ≡ false → AreParts at texts
dashed_parts at between [] none = tt
dashed_parts at between (text ∷ texts) none = joined_avoid at between (text ∷ texts) none

dashed_some : (at : ℕ) (texts : List (List ℕ)) → 1 ≤ length texts → dashed at texts ≡ join_with_byte at texts
dashed_some at [] some = absurd (omega (arith, some))
dashed_some at (text ∷ texts) some = refl

no_names : (text : List ℕ) → bytes_eq text (codes "-") ≡ true → names_in text ≡ []
no_names text same = rw same refl

some_names : (text : List ℕ) → bytes_eq text (codes "-") ≡ false → names_in text ≡ cut_by 44 text
some_names text other = rw other refl

no_dash : (text : List ℕ) → has_byte 45 text ≡ false → bytes_eq text (codes "-") ≡ false
no_dash text none = elim (cases_Bool (bytes_eq text (codes "-"))) [
  | inl same ↦ absurd (true≢false (sym (ap (has_byte 45) (bytes_are text (codes "-") same)) ∙ none))
  | inr other ↦ other
]

names_again : (names : List (List ℕ)) → AreParts 44 names → AreParts 45 names → names_in (dashed 44 names) ≡ names
names_again [] are also = refl
names_again (name ∷ names) are also =
    let text = join_with_byte 44 (name ∷ names) in
    some_names text (no_dash text (avoid_joined 45 44 (name ∷ names) refl also)) ∙ cut_texts 44 name names are

names_joined : (text : List ℕ) → dashed 44 (names_in text) ≡ text
names_joined text = elim (cases_Bool (bytes_eq text (codes "-"))) [
  | inl same ↦ ap (dashed 44) (no_names text same) ∙ sym (bytes_are text (codes "-") same)
  | inr other ↦
      ap (dashed 44) (some_names text other) ∙ dashed_some 44 (cut_by 44 text) (cut_some 44 text) ∙ join_with_byte-slice_split 44 text
]

-- the numbers of pages as they stand in the place of cells
abbrev numbers : List Page → List Page → List ℕ
numbers pages named = dashed 44 (map (page_name pages) named)

numbers_avoid : (at : ℕ) → at < 48 → has_byte at (codes "-") ≡ false → (44 == at) ≡ false → (pages named : List Page)
    → has_byte at (numbers pages named) ≡ false
numbers_avoid at low no_dash no_comma pages named =
    dashed_avoids at 44 (map (page_name pages) named) no_dash no_comma (names_avoid at low pages named)

no_space : (pages named : List Page) → has_byte 32 (numbers pages named) ≡ false
no_space pages named = numbers_avoid 32 (omega arith) refl refl pages named

-- FILLED AGAIN

abbrev pub all_read : (text : List ℕ) → (used : ℕ) → Filled (List ℕ)
all_read text used = record { read = text; used = used; in_turn = true }

module _ (digits : ℕ) where
  named_none : (pages : List Page) (text : List ℕ) → cells_in text ≡ None → named_in digits pages text ≡ text
  unfolding named_in
  named_none pages text none = ap (named_by digits pages text) none

  named_some : (pages : List Page) (text : List ℕ) (parts : Parts) → cells_in text ≡ Some parts
      → named_in digits pages text ≡ whole (parts.0, numbers pages (pages_within digits parts.1), parts.2)
  unfolding named_in
  named_some pages text parts is = ap (named_by digits pages text) is

  filled_none : (pages : List Page) (used : ℕ) (text : List ℕ) → cells_in text ≡ None
      → filled digits pages used text ≡ Some (all_read text used)
  unfolding filled
  filled_none pages used text none = ap (filled_by digits pages used text) none

  filled_some : (pages : List Page) (used : ℕ) (text : List ℕ) (parts : Parts) → cells_in text ≡ Some parts
      → filled digits pages used text ≡ option_map (with_cells parts) (pages_named digits pages used 0 (names_in parts.1))
  unfolding filled
  filled_some pages used text parts is = ap (filled_by digits pages used text) is

  pages_none : (text : List ℕ) → cells_in text ≡ None → pages_on digits text ≡ []
  pages_none text none = ap (pages_by digits) none

  pages_some : (text : List ℕ) (parts : Parts) → cells_in text ≡ Some parts → pages_on digits text ≡ pages_within digits parts.1
  pages_some text parts is = ap (pages_by digits) is

  loose_some : (text : List ℕ) (parts : Parts) → cells_in text ≡ Some parts → are_loose digits text ≡ true
      → Climb digits 0 (pages_within digits parts.1) × AllByRecursion (IsPage digits 0) (pages_within digits parts.1)
  loose_some text parts is loose = field_climbs digits parts.1 (ap (are_loose_in digits) (sym is) ∙ loose)

  -- how many pages are used behind a text
  abbrev used_behind : List Page → List ℕ → ℕ
  used_behind front text = length (with_pages front (pages_on digits text))

  filled_so : (pages front more : List Page) (used : ℕ) (text : List ℕ) (found : Option Parts) → cells_in text ≡ found
      → are_loose digits text ≡ true → used ≡ length front → pages ≡ with_pages front (pages_on digits text) ++ more
      → filled digits pages used (named_in digits pages text) ≡ Some (all_read text (used_behind front text))
  filled_so pages front more used text None is loose count are =
      ap (filled digits pages used) (named_none pages text is) ∙ filled_none pages used text is
      ∙ ap (λ n. Some (all_read text n)) (count ∙ ap (λ ps. length (with_pages front ps)) (sym (pages_none text is)))
  filled_so pages front more used text (Some parts) is loose count are =
      let named = pages_within digits parts.1 in
      let new = numbers pages named in
      let fits = cells_are text parts is in
      let again = cells_again text parts new is (no_space pages named) in
      let names = names_again (map (page_name pages) named) (names_avoid 44 (omega arith) pages named) (names_avoid 45 (omega arith) pages named) in
      let climb = (loose_some text parts is loose).0 in
      let here = are ∙ ap (λ ps. with_pages front ps ++ more) (pages_some text parts is) in
      let put : option_map (with_cells (parts.0, new, parts.2)) (Some (all_in_turn named (length (with_pages front named))))
      ≡ Some (all_read text (used_behind front text)) =
      ap₂ (λ (t : List ℕ) n. Some (all_read t n)) (ap (λ (cells : List ℕ). whole (parts.0, cells, parts.2)) (field_back digits parts.1) ∙ fits.0)
      (ap (λ ps. length (with_pages front ps)) (sym (pages_some text parts is))) in
      ap (filled digits pages used) (named_some pages text parts is)
      ∙ filled_some pages used (whole (parts.0, new, parts.2)) (parts.0, new, parts.2) again
      ∙ ap (λ ns. option_map (with_cells (parts.0, new, parts.2)) (pages_named digits pages used 0 ns)) names
      ∙ ap (option_map (with_cells (parts.0, new, parts.2))) (names_back digits pages front more used 0 named count here climb)
      ∙ put

  -- a text that names its pages in their turn is filled to the text
  pub filled_again : (pages front more : List Page) (used : ℕ) (text : List ℕ) → are_loose digits text ≡ true → used ≡ length front
      → pages ≡ with_pages front (pages_on digits text) ++ more
      → filled digits pages used (named_in digits pages text) ≡ Some (all_read text (length (with_pages front (pages_on digits text))))
  filled_again pages front more used text loose count are = filled_so pages front more used text (cells_in text) refl loose count are

  -- ONLY SO

  -- what a text that was filled says
  pub record IsFilled (pages front : List Page) (text : List ℕ) (found : Filled (List ℕ)) : Type 0 where
    pub named : named_in digits pages found.read ≡ text
    pub rest : List Page
    pub pages_are : pages ≡ with_pages front (pages_on digits found.read) ++ rest
    pub used : found.used ≡ length (with_pages front (pages_on digits found.read))

  -- a page as a line gives it
  abbrev pub IsGiven : Page → Type 0
  IsGiven page = is_page digits page ≡ true

  given : (pages : List Page) (page : Page) → AllByRecursion IsGiven pages → has_page pages page ≡ true → IsGiven page
  given [] page are has = absurd (false≢true has)
  given (first ∷ pages) page are has = elim (cases_Bool (bytes_eq first page)) [
    | inl same ↦ subst IsGiven (bytes_are first page same) are.0
    | inr other ↦ given pages page are.1 (rw other at has)
  ]

  all_given : (pages named : List Page) → AllByRecursion IsGiven pages → AllByRecursion (λ page. has_page pages page ≡ true) named
      → AllByRecursion (IsPage digits 0) named × AreParts 32 named
  all_given pages [] are have = (tt, tt)
  all_given pages (page ∷ named) are have =
      let is = page_is digits page (given pages page are have.0) in
      let others = all_given pages named are have.1 in
      ((is.1, others.0), (is.0, others.1))

  alone_filled : (pages front rest : List Page) (used : ℕ) (text : List ℕ) (found : Filled (List ℕ)) → cells_in text ≡ None
      → used ≡ length front → pages ≡ front ++ rest → all_read text used ≡ found → IsFilled pages front text found
  alone_filled pages front rest used text found none count are same = subst (IsFilled pages front text) same (record {
    named = named_none pages text none;
    rest = rest;
    pages_are = are ∙ ap (λ ps. with_pages front ps ++ rest) (sym (pages_none text none));
    used = count ∙ ap (λ ps. length (with_pages front ps)) (sym (pages_none text none));
  })

  some_filled : (pages front : List Page) (text : List ℕ) (parts : Parts) (named : Filled (List Page)) (found : Filled (List ℕ))
      → cells_in text ≡ Some parts → AllByRecursion IsGiven pages → map (page_name pages) named.read ≡ names_in parts.1
      → Climb digits 0 named.read → AllByRecursion (λ page. has_page pages page ≡ true) named.read
      → (rest : List Page) → pages ≡ with_pages front named.read ++ rest → named.used ≡ length (with_pages front named.read)
      → with_cells parts named ≡ found → IsFilled pages front text found
  some_filled pages front text parts named found is given_so names climb have rest are used same =
      let cells = dashed 59 named.read in
      let good = all_given pages named.read given_so have in
      let space = dashed_avoids 32 59 named.read refl refl good.1 in
      let again = cells_again text parts cells is space in
      let back : pages_within digits cells ≡ named.read = field_only digits 0 named.read good.0 climb in
      let on : pages_on digits (whole (parts.0, cells, parts.2)) ≡ named.read =
      pages_some (whole (parts.0, cells, parts.2)) (parts.0, cells, parts.2) again ∙ back in
      let numbers_so : numbers pages (pages_within digits cells) ≡ parts.1 =
      ap (numbers pages) back ∙ ap (dashed 44) names ∙ names_joined parts.1 in
      subst (IsFilled pages front text) same (record {
        named = named_some pages (whole (parts.0, cells, parts.2)) (parts.0, cells, parts.2) again
            ∙ ap (λ (ns : List ℕ). whole (parts.0, ns, parts.2)) numbers_so ∙ (cells_are text parts is).0;
        rest = rest;
        pages_are = are ∙ ap (λ ps. with_pages front ps ++ rest) (sym on);
        used = used ∙ ap (λ ps. length (with_pages front ps)) (sym on);
      })

  filled_of : (pages front rest : List Page) (used : ℕ) (text : List ℕ) (found : Filled (List ℕ)) (parts : Option Parts) → cells_in text ≡ parts
      → AreApart pages → AllByRecursion IsGiven pages → used ≡ length front → pages ≡ front ++ rest
      → filled digits pages used text ≡ Some found → found.in_turn ≡ true → IsFilled pages front text found
  filled_of pages front rest used text found None is apart given_so count are e turn =
      alone_filled pages front rest used text found is count are (same_Some (all_read text used) found (sym (filled_none pages used text is) ∙ e))
  filled_of pages front rest used text found (Some parts) is apart given_so count are e turn =
      map_only (with_cells parts) (pages_named digits pages used 0 (names_in parts.1)) found (sym (filled_some pages used text parts is) ∙ e) (λ named read same.
      let so = names_only digits pages apart front rest used 0 (names_in parts.1) named count are read (ap (λ (f : Filled (List ℕ)). f.in_turn) same ∙ turn) in
      some_filled pages front text parts named found is given_so so.names_are so.climb so.have so.rest so.pages_are so.used same)

  -- a text that is filled in turn names the pages of what it is filled to
  pub filled_only : (pages front rest : List Page) (used : ℕ) (text : List ℕ) (found : Filled (List ℕ)) → AreApart pages
      → AllByRecursion IsGiven pages → used ≡ length front → pages ≡ front ++ rest
      → filled digits pages used text ≡ Some found → found.in_turn ≡ true → IsFilled pages front text found
  filled_only pages front rest used text found apart given_so count are e turn =
      filled_of pages front rest used text found (cells_in text) refl apart given_so count are e turn

  -- THE PAGES OF TEXTS

  -- a page that is in one line
  abbrev pub IsPageLine : Page → Type 0
  IsPageLine page = IsGiven page × IsOneLine page

  all_lines : (pages : List Page) → AllByRecursion (IsPage digits 0) pages → AreParts 32 pages → AreParts 10 pages
      → AllByRecursion IsPageLine pages
  all_lines [] are spaces feeds = tt
  all_lines (page ∷ pages) are spaces feeds =
      ((is_page_so digits page spaces.0 are.0, feeds.0), all_lines pages are.1 spaces.1 feeds.1)

  cells_one_line : (text : List ℕ) (parts : Parts) → whole parts ≡ text → IsOneLine text
      → IsOneLine parts.0 × IsOneLine parts.1 × IsOneLine parts.2
  cells_one_line text parts is one =
      let first = has_byte-parts 10 parts.0 (codes "M=" ++ (parts.1 ++ parts.2)) (ap (has_byte 10) is ∙ one) in
      let second = has_byte-parts 10 (codes "M=") (parts.1 ++ parts.2) first.1 in
      let last = has_byte-parts 10 parts.1 parts.2 second.1 in
      (first.0, last.0, last.1)

  on_are : (text : List ℕ) (found : Option Parts) → cells_in text ≡ found → are_loose digits text ≡ true → IsOneLine text
      → AllByRecursion IsPageLine (pages_on digits text)
  on_are text None is loose one = subst (AllByRecursion IsPageLine) (sym (pages_none text is)) tt
  on_are text (Some parts) is loose one =
      let pages = pages_within digits parts.1 in
      let fits = cells_are text parts is in
      let lines = cells_one_line text parts fits.0 one in
      let back = field_back digits parts.1 in
      subst (AllByRecursion IsPageLine) (sym (pages_some text parts is)) (all_lines pages (loose_some text parts is loose).1
      (dashed_parts 32 59 pages (ap (has_byte 32) back ∙ fits.1)) (dashed_parts 10 59 pages (ap (has_byte 10) back ∙ lines.1)))

  pub pages_on_are : (text : List ℕ) → are_loose digits text ≡ true → IsOneLine text → AllByRecursion IsPageLine (pages_on digits text)
  pages_on_are text loose one = on_are text (cells_in text) refl loose one

  all_more : (front : List Page) (page : Page) → AllByRecursion IsPageLine front → IsPageLine page
      → AllByRecursion IsPageLine (front ++ page ∷ [])
  all_more [] page are is = (is, tt)
  all_more (first ∷ front) page are is = (are.0, all_more front page are.1 is)

  -- pages that stand apart, each in a line
  pub record AreLinesApart (pages : List Page) : Type 0 where
    pub apart : AreApart pages
    pub lines : AllByRecursion IsPageLine pages

  with_page_apart : (front : List Page) (page : Page) → AreLinesApart front → IsPageLine page → AreLinesApart (with_page front page)
  with_page_apart front page are is = elim (cases_Bool (has_page front page)) [
    | inl has ↦ rw has are
    | inr none ↦ rw none (record { apart = apart_more front page are.apart none; lines = all_more front page are.lines is })
  ]

  pub with_pages_apart : (front pages : List Page) → AreLinesApart front → AllByRecursion IsPageLine pages → AreLinesApart (with_pages front pages)
  with_pages_apart front [] are more = are
  with_pages_apart front (page ∷ pages) are more =
      with_pages_apart (with_page front page) pages (with_page_apart front page are more.0) more.1

  -- WHAT STAYS

  line_of : (pages : List Page) (text : List ℕ) (found : Option Parts) → cells_in text ≡ found → IsOneLine text
      → IsOneLine (named_in digits pages text)
  line_of pages text None is one = ap (has_byte 10) (named_none pages text is) ∙ one
  line_of pages text (Some parts) is one =
      let lines = cells_one_line text parts (cells_are text parts is).0 one in
      let new = numbers pages (pages_within digits parts.1) in
      ap (has_byte 10) (named_some pages text parts is) ∙ has_byte-both 10 parts.0 (codes "M=" ++ (new ++ parts.2)) lines.0
      (has_byte-both 10 (codes "M=") (new ++ parts.2) refl
      (has_byte-both 10 new parts.2 (numbers_avoid 10 (omega arith) refl refl pages (pages_within digits parts.1)) lines.2))

  pub named_one_line : (pages : List Page) (text : List ℕ) → IsOneLine text → IsOneLine (named_in digits pages text)
  named_one_line pages text one = line_of pages text (cells_in text) refl one

  abbrev begins_with : ℕ → List ℕ → Type 0
  begins_with b text = (rest : List ℕ) × (text ≡ b ∷ rest)

  same_first : {x y : ℕ} {xs ys : List ℕ} → x ∷ xs ≡ y ∷ ys → x ≡ y
  same_first e = cc

  first_kept : (b : ℕ) → (b == 77) ≡ false → (front new old rest behind : List ℕ) → front ++ (codes "M=" ++ (old ++ rest)) ≡ b ∷ behind
      → begins_with b (front ++ (codes "M=" ++ (new ++ rest)))
  first_kept b other [] new old rest behind e = absurd (false≢true (sym other ∙ ap (λ n. n == 77) (sym (same_first e))))
  first_kept b other (c ∷ front) new old rest behind e =
      let more = front ++ (codes "M=" ++ (new ++ rest)) in
      (more, ap (λ (n : ℕ). n ∷ more) (same_first e))

  kept_of : (pages : List Page) (b : ℕ) (rest text : List ℕ) (found : Option Parts) → cells_in text ≡ found → (b == 77) ≡ false → text ≡ b ∷ rest
      → begins_with b (named_in digits pages text)
  kept_of pages b rest text None is other e = (rest, named_none pages text is ∙ e)
  kept_of pages b rest text (Some parts) is other e =
      let kept = first_kept b other parts.0 (numbers pages (pages_within digits parts.1)) parts.1 parts.2 rest ((cells_are text parts is).0 ∙ e) in
      (kept.0, named_some pages text parts is ∙ kept.1)

  -- the first byte stays, unless it is M
  pub first_stays : (pages : List Page) (b : ℕ) (rest : List ℕ) → (b == 77) ≡ false
      → (behind : List ℕ) × (named_in digits pages (b ∷ rest) ≡ b ∷ behind)
  first_stays pages b rest other = kept_of pages b rest (b ∷ rest) (cells_in (b ∷ rest)) refl other refl
