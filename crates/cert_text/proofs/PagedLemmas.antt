-- The rows of a text are those whose listing it is, for rows of any kind with exact texts: in version 2, and in both.
use Rattle.std.proofs.Common.{Bool, ◌≡◌, ℕ, suc, ◌+◌, refl, sym, ap, ap₂, ◌∙◌, subst, true, false, ◌⊎◌, inl, inr, arith, Option, None, Some, Result, Ok, Err, List, [], ◌∷◌, ◌++◌, append_assoc, length, length-append, ◌≤◌, map}
use Rattle.std.specs.Prelude.{◌==◌, ◌&&◌, not}
use Rattle.std.specs.List.{AllByRecursion}
use Rattle.std.specs.Str.{bytes_eq}
use Rattle.std.proofs.lemmas.Bool.{and_parts, cases_Bool, eq-eqb, eqb-true, false≢true, not-true, true≢false}
use Rattle.std.proofs.lemmas.List.{append-nil, length-map}
use Rattle.std.proofs.lemmas.Option.{none-some}
use Rattle.text_fields.specs.Fields.{behind, behind_only}
use Rattle.text_fields.specs.Lines.{IsOneLine, counted, joined, joined-lines_cut, lines_cut-joined, reading, rest_of, whole_lines}
use Rattle.text_fields.specs.Spelling.{Spelling, has_byte-both}
use Rattle.cert_pages.specs.Numbers.{name_avoids, name_of}
use Rattle.cert_pages.specs.Pages.{Filled, Page, filled, has_page, is_page, named_in, pages_on, with_pages, with_texts}
use Rattle.cert_pages.specs.Numbered.{AreApart, apart_front, apart_more, pages_grow}
use Rattle.cert_pages.specs.Named.{AreLinesApart, IsGiven, IsPageLine, filled_again, filled_only, first_stays, named_one_line, pages_on_are, with_pages_apart}
use Rattle.cert_text.specs.declared.fault.LineFault.{LineFault}
use Rattle.cert_text.specs.Certificate.{Ascend, Read, at_first, begin, end_of, finish, first_line, is_below, is_empty, last_line, listed_by, listing1_of, listing_of, no_rows, older_line, page_front, page_lines, page_or_row, paged, pages_in, placed, placed_filled, row_lines, step}
use Rattle.cert_text.proofs.RowLemmas.{AreLines, IsRowText, bytes_are, cases_Option, ended_stays, err-ok, lines_fit, no_end, no_page, rows_only, same_Ok}

-- a text behind a front
behind_front : (front rest : List ℕ) → behind front (front ++ rest) ≡ Some rest
behind_front [] rest = refl
behind_front (b ∷ front) rest = rw (eq-eqb b b refl) (behind_front front rest)

-- the letter of a row stays
named_begins : (digits : ℕ) (pages : List Page) (text : List ℕ) → IsRowText text → IsRowText (named_in digits pages text)
named_begins digits pages text is =
    let other : (is.first == 77) ≡ false = elim is.letter [ inl n ↦ ap (λ b. b == 77) n | inr x ↦ ap (λ b. b == 77) x ] in
    let kept = first_stays digits pages is.first is.rest other in
    record { first = is.first; rest = kept.0; are = ap (named_in digits pages) is.are ∙ kept.1; letter = is.letter }

module _ {R : Type 0} (row : Spelling R) (key : R → List ℕ) (digits : ℕ) where
  -- behind the head, with these pages, of which so many were used, and rows so far
  abbrev among : List Page → (used : ℕ) → (last : List ℕ) → List R → Read R
  among pages used last held = record { version = 2; ended = false; rows = held; last = last; pages = pages; used = used }

  abbrev ended : List Page → (used : ℕ) → (last : List ℕ) → List R → Read R
  ended pages used last held = record { version = 2; ended = true; rows = held; last = last; pages = pages; used = used }

  -- one line: the end, a row, or a page
  step_end : (pages : List Page) (used : ℕ) (last : List ℕ) (held : List R) (line : List ℕ) → bytes_eq line last_line ≡ true
      → used ≡ length pages → step row key digits (among pages used last held) line ≡ Ok (ended pages used last held)
  step_end pages used last held line is all = rw (is, eq-eqb used (length pages) all) refl

  step_line : (pages : List Page) (used : ℕ) (last : List ℕ) (held : List R) (line : List ℕ) (cells : Option (List ℕ)) → bytes_eq line last_line ≡ false
      → behind (page_front (length pages)) line ≡ cells
      → step row key digits (among pages used last held) line ≡ page_or_row row key digits (among pages used last held) line cells
  step_line pages used last held line cells other is = rw (other, is) refl

  placed_row : (pages : List Page) (used now : ℕ) (last : List ℕ) (held : List R) (x : R) → is_below last (key x) ≡ true
      → placed row key (among pages used last held) now true (Some x) ≡ Ok (among pages now (key x) (held ++ x ∷ []))
  placed_row pages used now last held x above = rw above refl

  page_end : (number : ℕ) (page : Page) → bytes_eq (page_front number ++ page) last_line ≡ false
  page_end number page = refl

  step_page : (pages : List Page) (page : Page) → is_page digits page ≡ true → has_page pages page ≡ false
      → step row key digits (among pages 0 [] []) (page_front (length pages) ++ page) ≡ Ok (among (pages ++ page ∷ []) 0 [] [])
  step_page pages page is new =
      step_line pages 0 [] [] (page_front (length pages) ++ page) (Some page) (page_end (length pages) page) (behind_front (page_front (length pages)) page)
      ∙ rw (is, new) refl

  -- the texts of rows are used one after the other
  abbrev texts_of : List R → List (List ℕ)
  texts_of rows = map row.text rows

  texts_grow : (front : List Page) (texts : List (List ℕ)) → (rest : List Page) × (with_texts digits front texts ≡ front ++ rest)
  texts_grow front [] = ([], sym (append-nil front))
  texts_grow front (text ∷ texts) =
      let one = pages_grow front (pages_on digits text) in
      let all = texts_grow (with_pages front (pages_on digits text)) texts in (
        one.rest ++ all.0,
        all.1 ∙ ap (λ (ps : List Page). ps ++ all.0) one.are ∙ append_assoc front one.rest all.0,
      )

  -- BACK

  -- rows in order that use all pages are read
  rows_back : AreLines row digits → (pages front : List Page) (used : ℕ) (last : List ℕ) (held rows : List R) (count : ℕ)
      → used ≡ length front → pages ≡ with_texts digits front (texts_of rows) → Ascend row key last rows
      → (end : List ℕ) × (reading (step row key digits) count (among pages used last held) (row_lines digits row pages rows)
      ≡ Ok (ended pages (length pages) end (held ++ rows)))
  rows_back are pages front used last held [] count so_far all ascend =
      let every : used ≡ length pages = so_far ∙ ap length (sym all) in (
        last,
        ap (counted count Ok) (step_end pages used last held last_line refl every)
            ∙ ap₂ (λ n (rows : List R). Ok (ended pages n last rows)) every (sym (append-nil held)),
      )
  rows_back are pages front used last held (x ∷ rows) count so_far all ascend =
      let text = row.text x in
      let line = named_in digits pages text in
      let next = with_pages front (pages_on digits text) in
      let grown = texts_grow next (texts_of rows) in
      let fill = filled_again digits pages front grown.0 used text (are.loose x ascend.0) so_far (all ∙ grown.1) in
      let letter = named_begins digits pages text (are.begins x ascend.0) in
      let stepped = step_line pages used last held line None (no_end line letter) (no_page line (length pages) letter)
      ∙ ap (placed_filled row key (among pages used last held)) fill
      ∙ ap (placed row key (among pages used last held) (length next) true) (are.exact.back x ascend.0)
      ∙ placed_row pages used (length next) last held x ascend.1 in
      let behind_so = rows_back are pages next (length next) (key x) (held ++ x ∷ []) rows (suc count) refl all ascend.2 in (
        behind_so.0,
        ap (counted count (λ read. reading (step row key digits) (suc count) read (row_lines digits row pages rows))) stepped
            ∙ behind_so.1 ∙ ap (λ (rows : List R). Ok (ended pages (length pages) behind_so.0 rows)) (append_assoc held (x ∷ []) rows),
      )

  abbrev AllGiven : List Page → Type 0
  AllGiven pages = AllByRecursion (IsPageLine digits) pages

  -- pages are read in front of rows
  pages_back : (front pages : List Page) (count : ℕ) (lines : List (List ℕ)) → AllGiven pages → AreApart (front ++ pages)
      → (last : ℕ) × (reading (step row key digits) count (among front 0 [] []) (page_lines (length front) pages ++ lines)
      ≡ reading (step row key digits) last (among (front ++ pages) 0 [] []) lines)
  pages_back front [] count lines given apart =
      (count, ap (λ (ps : List Page). reading (step row key digits) count (among ps 0 [] []) lines) (sym (append-nil front)))
  pages_back front (page ∷ pages) count lines given apart =
      let next : length (front ++ page ∷ []) ≡ suc (length front) = omega (arith, length-append front (page ∷ [])) in
      let same = append_assoc front (page ∷ []) pages in
      let later = pages_back (front ++ page ∷ []) pages (suc count) lines given.1 (subst AreApart (sym same) apart) in (
        later.0,
        ap (counted count (λ read. reading (step row key digits) (suc count) read (page_lines (suc (length front)) pages ++ lines)))
            (step_page front page given.0.0 (apart_front front page pages apart))
            ∙ ap (λ n. reading (step row key digits) (suc count) (among (front ++ page ∷ []) 0 [] []) (page_lines n pages ++ lines)) (sym next)
            ∙ later.1 ∙ ap (λ (ps : List Page). reading (step row key digits) later.0 (among ps 0 [] []) lines) same,
      )

  -- the pages of rows stand apart
  texts_apart : AreLines row digits → (front : List Page) (last : List ℕ) (rows : List R) → AreLinesApart digits front → Ascend row key last rows
      → AreLinesApart digits (with_texts digits front (texts_of rows))
  texts_apart are front last [] so_far ascend = so_far
  texts_apart are front last (x ∷ rows) so_far ascend =
      let on = pages_on_are digits (row.text x) (are.loose x ascend.0) (are.one_line x ascend.0) in
      texts_apart are (with_pages front (pages_on digits (row.text x))) (key x) rows
      (with_pages_apart digits front (pages_on digits (row.text x)) so_far on) ascend.2

  rows_apart : AreLines row digits → (rows : List R) → Ascend row key [] rows → AreLinesApart digits (pages_in digits row rows)
  rows_apart are rows ascend = texts_apart are [] [] rows (record { apart = tt; lines = tt }) ascend

  page_one_line : (number : ℕ) (page : Page) → IsOneLine page → IsOneLine (page_front number ++ page)
  page_one_line number page one =
      has_byte-both 10 (page_front number) page
      (has_byte-both 10 (name_of number) (32 ∷ []) (name_avoids 10 (omega arith) number) refl) one

  all_one_line : AreLines row digits → (pages all : List Page) (number : ℕ) (last : List ℕ) (rows : List R) → AllGiven pages → Ascend row key last rows
      → AllByRecursion IsOneLine (page_lines number pages ++ row_lines digits row all rows)
  all_one_line are [] all number last [] given ascend = (refl, tt)
  all_one_line are [] all number last (x ∷ rows) given ascend =
      (named_one_line digits all (row.text x) (are.one_line x ascend.0), all_one_line are [] all number (key x) rows given ascend.2)
  all_one_line are (page ∷ pages) all number last rows given ascend =
      (page_one_line number page given.0.1, all_one_line are pages all (suc number) last rows given.1 ascend)

  pub listing_is_read : AreLines row digits → (rows : List R) → Ascend row key [] rows
      → listed_by (step row key digits) (listing_of digits row rows) ≡ Ok rows
  listing_is_read are rows ascend =
      let pages = pages_in digits row rows in
      let lines = page_lines 0 pages ++ row_lines digits row pages rows in
      let stand = rows_apart are rows ascend in
      let cut = lines_cut-joined (first_line ∷ lines) [] (refl, all_one_line are pages pages 0 [] rows stand.lines ascend) refl in
      let front = pages_back [] pages 1 (row_lines digits row pages rows) stand.lines stand.apart in
      let read = rows_back are pages [] 0 [] [] rows front.0 refl refl ascend in
      ap (λ (c : List (List ℕ) × List ℕ). finish c.1 (length c.0 + 1) (reading (step row key digits) 0 at_first c.0)) cut
      ∙ ap (finish [] (length (first_line ∷ lines) + 1)) (front.1 ∙ read.1)

  -- ONLY

  -- what lines of pages and rows are, behind these pages, of which the front was used, and rows so far
  pub record AreRead (pages front : List Page) (last : List ℕ) (held : List R) (lines : List (List ℕ)) (read : Read R) : Type 0 where
    pub more : List Page
    pub none : no_rows held ≡ false → more ≡ []
    pub rows : List R
    pub ascend : Ascend row key last rows
    pub lines_are : lines ≡ page_lines (length pages) more ++ row_lines digits row (pages ++ more) rows
    pub rows_are : read.rows ≡ held ++ rows
    pub all_used : pages ++ more ≡ with_texts digits front (texts_of rows)

  -- the pages so far
  record ArePages (pages front : List Page) (used : ℕ) : Type 0 where
    apart : AreApart pages
    given : AllByRecursion (IsGiven digits) pages
    rest : List Page
    are : pages ≡ front ++ rest
    used_are : used ≡ length front

  all_given : (pages : List Page) (page : Page) → AllByRecursion (IsGiven digits) pages → is_page digits page ≡ true
      → AllByRecursion (IsGiven digits) (pages ++ page ∷ [])
  all_given [] page given is = (is, tt)
  all_given (first ∷ pages) page given is = (given.0, all_given pages page given.1 is)

  nothing_left : (front rest : List Page) → length front ≡ length (front ++ rest) → rest ≡ []
  nothing_left front [] e = refl
  nothing_left front (page ∷ rest) e = absurd (omega (arith, e, length-append front (page ∷ rest)))

  at_end : (pages front : List Page) (used : ℕ) (last : List ℕ) (held : List R) (count : ℕ) (line : List ℕ) (lines : List (List ℕ)) (read : Read R)
      → ArePages pages front used → bytes_eq line last_line ≡ true
      → reading (step row key digits) count (among pages used last held) (line ∷ lines) ≡ Ok read
      → AreRead pages front last held (line ∷ lines) read
  at_end pages front used last held count line lines read so_far is e = elim (cases_Bool (used == length pages)) [
    | inl all ↦
        let stays = ended_stays row key digits (ended pages used last held) (suc count) lines read refl (rw (is, all) at e) in
        let none = nothing_left front so_far.rest (sym so_far.used_are ∙ eqb-true used (length pages) all ∙ ap length so_far.are) in
        record {
          more = [];
          none = λ some. refl;
          rows = [];
          ascend = tt;
          lines_are = ap₂ (λ (l : List ℕ) (ls : List (List ℕ)). l ∷ ls) (bytes_are line last_line is) stays.0;
          rows_are = ap (λ (r : Read R). r.rows) stays.1 ∙ sym (append-nil held);
          all_used = append-nil pages ∙ so_far.are ∙ ap (λ (ps : List Page). front ++ ps) none ∙ append-nil front;
        }
    | inr some ↦ absurd (err-ok (rw (is, some) at e))
  ]

  some_rows : (held : List R) (x : R) → no_rows (held ++ x ∷ []) ≡ false
  some_rows [] x = refl
  some_rows (y ∷ held) x = refl

  no_held : (held : List R) → no_rows held ≡ true → held ≡ []
  no_held [] e = refl
  no_held (x ∷ held) e = absurd (false≢true e)

  -- a page in front of what is read
  page_read : (pages front : List Page) (last : List ℕ) (held : List R) (line : List ℕ) (page : Page) (lines : List (List ℕ)) (read : Read R)
      → page_front (length pages) ++ page ≡ line → no_rows held ≡ true → AreRead (pages ++ page ∷ []) front last held lines read
      → AreRead pages front last held (line ∷ lines) read
  page_read pages front last held line page lines read is empty later =
      let next : length (pages ++ page ∷ []) ≡ suc (length pages) = omega (arith, length-append pages (page ∷ [])) in
      let same = append_assoc pages (page ∷ []) later.more in
      record {
        more = page ∷ later.more;
        none = λ some. absurd (true≢false (sym empty ∙ some));
        rows = later.rows;
        ascend = later.ascend;
        lines_are = ap₂ (λ (l : List ℕ) (ls : List (List ℕ)). l ∷ ls) (sym is) (later.lines_are
            ∙ ap₂ (λ n (ps : List Page). page_lines n later.more ++ row_lines digits row ps later.rows) next same);
        rows_are = later.rows_are;
        all_used = sym same ∙ later.all_used;
      }

  -- a row in front of what is read
  row_read : (pages front : List Page) (last : List ℕ) (held : List R) (line : List ℕ) (x : R) (lines : List (List ℕ)) (read : Read R)
      → row.Form x → is_below last (key x) ≡ true → named_in digits pages (row.text x) ≡ line
      → AreRead pages (with_pages front (pages_on digits (row.text x))) (key x) (held ++ x ∷ []) lines read
      → AreRead pages front last held (line ∷ lines) read
  row_read pages front last held line x lines read form above is later =
      let nothing = later.none (some_rows held x) in
      let all : pages ++ later.more ≡ pages = ap (λ (ps : List Page). pages ++ ps) nothing ∙ append-nil pages in
      let behind_so : lines ≡ row_lines digits row (pages ++ []) later.rows =
      later.lines_are ∙ ap (λ (ps : List Page). page_lines (length pages) ps ++ row_lines digits row (pages ++ ps) later.rows) nothing in
      let whole : named_in digits (pages ++ []) (row.text x) ≡ line = ap (λ ps. named_in digits ps (row.text x)) (append-nil pages) ∙ is in
      record {
        more = [];
        none = λ some. refl;
        rows = x ∷ later.rows;
        ascend = (form, above, later.ascend);
        lines_are = ap₂ (λ (l : List ℕ) (ls : List (List ℕ)). l ∷ ls) (sym whole) behind_so;
        rows_are = later.rows_are ∙ append_assoc held (x ∷ []) later.rows;
        all_used = append-nil pages ∙ sym all ∙ later.all_used;
      }

  -- what is read is pages, and then rows in order
  lines_only : AreLines row digits → (pages front : List Page) (used : ℕ) (last : List ℕ) (held : List R) (count : ℕ) (lines : List (List ℕ)) (read : Read R)
      → ArePages pages front used → reading (step row key digits) count (among pages used last held) lines ≡ Ok read → read.ended ≡ true
      → AreRead pages front last held lines read
  lines_only are pages front used last held count [] read so_far e end = absurd (false≢true (ap (λ (r : Read R). r.ended) (same_Ok e) ∙ end))
  lines_only are pages front used last held count (line ∷ lines) read so_far e end = elim (cases_Bool (bytes_eq line last_line)) [
    | inl is ↦ at_end pages front used last held count line lines read so_far is e
    | inr other ↦ elim (cases_Option (behind (page_front (length pages)) line)) [
      | inr cells ↦ elim (cases_Bool (is_page digits cells.0)) [
        | inr bad ↦ absurd (err-ok (rw (other, cells.1, bad) at e))
        | inl good ↦ elim (cases_Bool (no_rows held)) [
          | inr some ↦ absurd (err-ok (rw (other, cells.1, good, some) at e))
          | inl empty ↦ elim (cases_Bool (has_page pages cells.0)) [
            | inl twice ↦ absurd (err-ok (rw (other, cells.1, good, empty, twice) at e))
            | inr new ↦
                let page = cells.0 in
                let more : ArePages (pages ++ page ∷ []) front used = record {
                  apart = apart_more pages page so_far.apart new;
                  given = all_given pages page so_far.given good;
                  rest = so_far.rest ++ page ∷ [];
                  are = ap (λ (ps : List Page). ps ++ page ∷ []) so_far.are ∙ append_assoc front so_far.rest (page ∷ []);
                  used_are = so_far.used_are;
                } in
                page_read pages front last held line page lines read (behind_only (page_front (length pages)) line page cells.1) empty
                (lines_only are (pages ++ page ∷ []) front used last held (suc count) lines read more (rw (other, cells.1, good, empty, new) at e) end)
          ]
        ]
      ]
      | inl none ↦ elim (cases_Option (filled digits pages used line)) [
        | inl nothing ↦ absurd (err-ok (rw (other, none, nothing) at e))
        | inr found ↦ elim (cases_Option (row.value found.0.read)) [
          | inl bad ↦ absurd (err-ok (rw (other, none, found.1, bad) at e))
          | inr x ↦ elim (cases_Bool found.0.in_turn) [
            | inr early ↦ absurd (err-ok (rw (other, none, found.1, x.1, early) at e))
            | inl turn ↦ elim (cases_Bool (is_below last (key x.0))) [
              | inr low ↦ absurd (err-ok (rw (other, none, found.1, x.1, turn, low) at e))
              | inl above ↦
                  let is = are.exact.only found.0.read x.0 x.1 in
                  let fill = filled_only digits pages front so_far.rest used line found.0 so_far.apart so_far.given so_far.used_are so_far.are found.1 turn in
                  let on = with_pages front (pages_on digits (row.text x.0)) in
                  let same : with_pages front (pages_on digits found.0.read) ≡ on = ap (λ t. with_pages front (pages_on digits t)) (sym is.1) in
                  let more : ArePages pages on found.0.used = record {
                    apart = so_far.apart;
                    given = so_far.given;
                    rest = fill.rest;
                    are = fill.pages_are ∙ ap (λ (ps : List Page). ps ++ fill.rest) same;
                    used_are = fill.used ∙ ap length same;
                  } in
                  row_read pages front last held line x.0 lines read is.0 above (ap (named_in digits pages) is.1 ∙ fill.named)
                  (lines_only are pages on found.0.used (key x.0) (held ++ x.0 ∷ []) (suc count) lines read more (rw (other, none, found.1, x.1, turn, above) at e) end)
            ]
          ]
        ]
      ]
    ]
  ]

  -- WHOLE TEXTS

  is_none : (bytes : List ℕ) → is_empty bytes ≡ true → bytes ≡ []
  is_none [] e = refl
  is_none (b ∷ bytes) e = absurd (false≢true e)

  -- what a finished reading says
  finished : (rest : List ℕ) (number : ℕ) (read : Result (Read R) (ℕ × LineFault)) (rows : List R) → finish rest number read ≡ Ok rows
      → (r : Read R) × (read ≡ Ok r) × (r.ended ≡ true) × (rest ≡ []) × (r.rows ≡ rows)
  finished rest number (Ok r) rows e = elim (cases_Bool r.ended) [
    | inl ended_so ↦ elim (cases_Bool (is_empty rest)) [
      | inl none ↦ (r, refl, ended_so, is_none rest none, same_Ok (rw (ended_so, none) at e))
      | inr some ↦ absurd (err-ok (rw (ended_so, some) at e))
    ]
    | inr open_yet ↦ absurd (err-ok (rw open_yet at e))
  ]
  finished rest number (Err bad) rows e = absurd (err-ok e)

  -- the lines of a listing of either version
  abbrev IsListing : List (List ℕ) → List R → Type 0
  IsListing lines rows = Ascend row key [] rows
      × ((lines ≡ first_line ∷ (page_lines 0 (pages_in digits row rows) ++ row_lines digits row (pages_in digits row rows) rows))
      ⊎ (lines ≡ older_line ∷ (map row.text rows ++ last_line ∷ [])))

  is_paged : (line : List ℕ) (lines : List (List ℕ)) (read : Read R) → bytes_eq line first_line ≡ true → AreRead [] [] [] [] lines read
      → IsListing (line ∷ lines) read.rows
  is_paged line lines read is so =
      let lines_so : lines ≡ page_lines 0 (pages_in digits row so.rows) ++ row_lines digits row (pages_in digits row so.rows) so.rows =
      so.lines_are ∙ ap (λ ps. page_lines 0 ps ++ row_lines digits row ps so.rows) so.all_used in
      let whole = ap₂ (λ (l : List ℕ) (ls : List (List ℕ)). l ∷ ls) (bytes_are line first_line is) lines_so in
      subst (IsListing (line ∷ lines)) (sym so.rows_are) (so.ascend, inl whole)

  text_only : AreLines row digits → (lines : List (List ℕ)) (read : Read R)
      → reading (step row key digits) 0 at_first lines ≡ Ok read → read.ended ≡ true → IsListing lines read.rows
  text_only are [] read e end = absurd (false≢true (ap (λ (r : Read R). r.ended) (same_Ok e) ∙ end))
  text_only are (line ∷ lines) read e end = elim (cases_Bool (bytes_eq line first_line)) [
    | inl is ↦ is_paged line lines read is (lines_only are [] [] 0 [] [] 1 lines read
        (record { apart = tt; given = tt; rest = []; are = refl; used_are = refl }) (rw is at e) end)
    | inr other ↦ elim (cases_Bool (bytes_eq line older_line)) [
      | inl is ↦
          let so = rows_only row key digits are [] [] 1 lines read (rw (other, is) at e) end in
          let whole = ap₂ (λ (l : List ℕ) (ls : List (List ℕ)). l ∷ ls) (bytes_are line older_line is) so.lines_are in
          subst (IsListing (line ∷ lines)) (sym so.rows_are) (so.ascend, inr whole)
      | inr bad ↦ absurd (err-ok (rw (other, bad) at e))
    ]
  ]

  listing_either : (text : List ℕ) (rows : List R) → rest_of text ≡ [] → IsListing (whole_lines text) rows
      → (text ≡ listing_of digits row rows) ⊎ (text ≡ listing1_of row rows)
  listing_either text rows none is = elim is.1 [
    | inl new ↦ inl (sym (joined-lines_cut text) ∙ ap₂ joined new none)
    | inr old ↦ inr (sym (joined-lines_cut text) ∙ ap₂ joined old none)
  ]

  pub read_is_listing : AreLines row digits → (text : List ℕ) (rows : List R) → listed_by (step row key digits) text ≡ Ok rows
      → Ascend row key [] rows × ((text ≡ listing_of digits row rows) ⊎ (text ≡ listing1_of row rows))
  read_is_listing are text rows e =
      let end = finished (rest_of text) (length (whole_lines text) + 1) (reading (step row key digits) 0 at_first (whole_lines text)) rows e in
      let is = subst (IsListing (whole_lines text)) end.4 (text_only are (whole_lines text) end.0 end.1 end.2) in
      (is.0, listing_either text rows end.3 is)

-- EACH ROW AND EACH PAGE HAS ITS LINE

module _ {R : Type 0} (row : Spelling R) (key : R → List ℕ) (digits : ℕ) where
  -- how many rows and pages there are
  abbrev pub counts : Read R → ℕ
  counts read = length read.rows + length read.pages

  placed_counts : (read next : Read R) (used : ℕ) (turn : Bool) (found : Option R) → placed row key read used turn found ≡ Ok next
      → counts next ≤ suc (counts read)
  placed_counts read next used turn None e = absurd (err-ok e)
  placed_counts read next used turn (Some x) e = elim (cases_Bool (turn && is_below read.last (key x))) [
    | inl above ↦
        let more : length (read.rows ++ x ∷ []) + length read.pages ≡ counts next = ap counts (same_Ok (rw above at e)) in
        omega (arith, more, length-append read.rows (x ∷ []))
    | inr low ↦ absurd (err-ok (rw low at e))
  ]

  filled_counts : (read next : Read R) (found : Option (Filled (List ℕ))) → placed_filled row key read found ≡ Ok next → counts next ≤ suc (counts read)
  filled_counts read next None e = absurd (err-ok e)
  filled_counts read next (Some found) e = placed_counts read next found.used found.in_turn (row.value found.read) e

  paged_counts : (read next : Read R) (cells : List ℕ) → paged digits read cells ≡ Ok next → counts next ≤ suc (counts read)
  paged_counts read next cells e = elim (cases_Bool (is_page digits cells)) [
    | inl good ↦ elim (cases_Bool (no_rows read.rows && not (has_page read.pages cells))) [
      | inl new ↦
          let more : length read.rows + length (read.pages ++ cells ∷ []) ≡ counts next = ap counts (same_Ok (rw (good, new) at e)) in
          omega (arith, more, length-append read.pages (cells ∷ []))
      | inr late ↦ absurd (err-ok (rw (good, late) at e))
    ]
    | inr bad ↦ absurd (err-ok (rw bad at e))
  ]

  line_counts : (read next : Read R) (line : List ℕ) (cells : Option (List ℕ)) → page_or_row row key digits read line cells ≡ Ok next
      → counts next ≤ suc (counts read)
  line_counts read next line (Some cells) e = paged_counts read next cells e
  line_counts read next line None e = filled_counts read next (filled digits read.pages read.used line) e

  same_counts : (read made next : Read R) → counts made ≡ counts read → ◌≡◌ {A = Result (Read R) LineFault} (Ok made) (Ok next)
      → counts next ≤ suc (counts read)
  same_counts read made next same e = omega (arith, same, ap counts (same_Ok e))

  begin_counts : (read next : Read R) (line : List ℕ) → begin read line ≡ Ok next → counts next ≤ suc (counts read)
  begin_counts read next line e = elim (cases_Bool (bytes_eq line first_line)) [
    | inl is ↦ same_counts read (record read { version = 2 }) next refl (rw is at e)
    | inr other ↦ elim (cases_Bool (bytes_eq line older_line)) [
      | inl is ↦ same_counts read (record read { version = 1 }) next refl (rw (other, is) at e)
      | inr bad ↦ absurd (err-ok (rw (other, bad) at e))
    ]
  ]

  end_counts : (read next : Read R) → end_of read ≡ Ok next → counts next ≤ suc (counts read)
  end_counts read next e = elim (cases_Bool (read.used == length read.pages)) [
    | inl all ↦ same_counts read (record read { ended = true }) next refl (rw all at e)
    | inr some ↦ absurd (err-ok (rw some at e))
  ]

  step_begins : (read : Read R) (line : List ℕ) → read.ended ≡ false → (read.version == 0) ≡ true
      → step row key digits read line ≡ begin read line
  step_begins read line open_yet none = rw (open_yet, none) refl

  step_ends : (read : Read R) (line : List ℕ) → read.ended ≡ false → (read.version == 0) ≡ false → bytes_eq line last_line ≡ true
      → step row key digits read line ≡ end_of read
  step_ends read line open_yet begun is = rw (open_yet, begun, is) refl

  step_old : (read : Read R) (line : List ℕ) → read.ended ≡ false → (read.version == 0) ≡ false → bytes_eq line last_line ≡ false
      → (read.version == 1) ≡ true → step row key digits read line ≡ placed row key read read.used true (row.value line)
  step_old read line open_yet begun other old = rw (open_yet, begun, other, old) refl

  step_new : (read : Read R) (line : List ℕ) → read.ended ≡ false → (read.version == 0) ≡ false → bytes_eq line last_line ≡ false
      → (read.version == 1) ≡ false
      → step row key digits read line ≡ page_or_row row key digits read line (behind (page_front (length read.pages)) line)
  step_new read line open_yet begun other new = rw (open_yet, begun, other, new) refl

  step_counts : (read next : Read R) (line : List ℕ) → step row key digits read line ≡ Ok next → counts next ≤ suc (counts read)
  step_counts read next line e = elim (cases_Bool read.ended) [
    | inl ended_so ↦ absurd (err-ok (rw ended_so at e))
    | inr open_yet ↦ elim (cases_Bool (read.version == 0)) [
      | inl none ↦ begin_counts read next line (sym (step_begins read line open_yet none) ∙ e)
      | inr begun ↦ elim (cases_Bool (bytes_eq line last_line)) [
        | inl is ↦ end_counts read next (sym (step_ends read line open_yet begun is) ∙ e)
        | inr other ↦ elim (cases_Bool (read.version == 1)) [
          | inl old ↦ placed_counts read next read.used true (row.value line) (sym (step_old read line open_yet begun other old) ∙ e)
          | inr new ↦
              line_counts read next line (behind (page_front (length read.pages)) line) (sym (step_new read line open_yet begun other new) ∙ e)
        ]
      ]
    ]
  ]

  lines_count : (held read : Read R) (count : ℕ) (lines : List (List ℕ)) (next : Result (Read R) LineFault)
      → ((made : Read R) → reading (step row key digits) (suc count) made lines ≡ Ok read → counts read ≤ length lines + counts made)
      → ((made : Read R) → next ≡ Ok made → counts made ≤ suc (counts held))
      → counted count (λ made. reading (step row key digits) (suc count) made lines) next ≡ Ok read → counts read ≤ suc (length lines) + counts held
  lines_count held read count lines (Err fault) rest one e = absurd (err-ok e)
  lines_count held read count lines (Ok made) rest one e = omega (arith, rest made e, one made refl)

  -- lines give at most as many
  pub lines_counts : (held read : Read R) (count : ℕ) (lines : List (List ℕ)) → reading (step row key digits) count held lines ≡ Ok read
      → counts read ≤ length lines + counts held
  lines_counts held read count [] e = omega (arith, ap counts (same_Ok e))
  lines_counts held read count (line ∷ lines) e =
      lines_count held read count lines (step row key digits held line) (λ made. lines_counts made read (suc count) lines)
      (λ made is. step_counts held made line is) e
