-- The rows of a text are those whose listing it is, for rows of any kind with exact texts: in version 1.
use Rattle.std.proofs.Common.{◌≡◌, ℕ, suc, ◌+◌, refl, sym, ap, ap₂, ◌∙◌, subst, true, false, ◌⊎◌, inl, inr, arith, Option, None, Some, Result, Ok, Err, List, [], ◌∷◌, ◌++◌, append_assoc, length, length-append, ◌≤◌, map}
use Rattle.std.specs.List.{AllByRecursion}
use Rattle.std.specs.Str.{bytes_eq}
use Rattle.std.proofs.lemmas.Bool.{cases_Bool, false≢true}
use Rattle.std.proofs.lemmas.List.{append-nil}
use Rattle.std.proofs.lemmas.Slice.Eq.{bytes_eq-Decides}
use Rattle.text_fields.specs.Fields.{behind}
use Rattle.text_fields.specs.Lines.{IsOneLine, counted, joined, lines_cut-joined, reading}
use Rattle.text_fields.specs.Spelling.{Spelling, IsExact}
use Rattle.state_text.specs.Cells.{are_loose}
use Rattle.cert_text.specs.declared.fault.LineFault.{LineFault}
use Rattle.cert_text.specs.Certificate.{Ascend, Read, at_first, finish, is_below, last_line, listed_by, listing1_of, older_line, page_front, placed, step}

-- a text that begins with the letter of a row
pub record IsRowText (text : List ℕ) : Type 0 where
  pub first : ℕ
  pub rest : List ℕ
  pub are : text ≡ first ∷ rest
  pub letter : (first ≡ 78) ⊎ (first ≡ 88)

-- what rows need: no value has two texts, each begins with its letter and is in one line, and its cells can be told
pub record AreLines {R : Type 0} (row : Spelling R) (digits : ℕ) : Type 0 where
  pub exact : IsExact row
  pub begins : (x : R) → row.Form x → IsRowText (row.text x)
  pub one_line : (x : R) → row.Form x → IsOneLine (row.text x)
  pub loose : (x : R) → row.Form x → are_loose digits (row.text x) ≡ true

-- it is neither the last line nor a page
pub no_end : (text : List ℕ) → IsRowText text → bytes_eq text last_line ≡ false
no_end text is = elim is.letter [
  | inl n ↦ ap (λ (t : List ℕ). bytes_eq t last_line) (is.are ∙ ap (λ (b : ℕ). b ∷ is.rest) n)
  | inr x ↦ ap (λ (t : List ℕ). bytes_eq t last_line) (is.are ∙ ap (λ (b : ℕ). b ∷ is.rest) x)
]

pub no_page : (text : List ℕ) (number : ℕ) → IsRowText text → behind (page_front number) text ≡ None
no_page text number is = elim is.letter [
  | inl n ↦ ap (behind (page_front number)) (is.are ∙ ap (λ (b : ℕ). b ∷ is.rest) n)
  | inr x ↦ ap (behind (page_front number)) (is.are ∙ ap (λ (b : ℕ). b ∷ is.rest) x)
]

pub err-ok : {A B : Type 0} {x : A} {e : B} → ◌≡◌ {A = Result A B} (Err e) (Ok x) → ⊥
err-ok same = grind arith

pub same_Ok : {A B : Type 0} {x y : A} → ◌≡◌ {A = Result A B} (Ok x) (Ok y) → x ≡ y
same_Ok same = grind arith

-- an option has a value or none
pub cases_Option : {A : Type 0} (o : Option A) → (o ≡ None) ⊎ ((x : A) × (o ≡ Some x))
cases_Option None = inl refl
cases_Option (Some x) = inr (x, refl)

pub bytes_are : (xs ys : List ℕ) → bytes_eq xs ys ≡ true → xs ≡ ys
bytes_are xs ys h = (bytes_eq-Decides xs ys).0 h

pub lines_fit : (lines : List (List ℕ)) (rest : List ℕ) → length lines ≤ length (joined lines rest)
lines_fit [] rest = omega arith
lines_fit (line ∷ lines) rest = omega (arith, lines_fit lines rest, length-append line (10 ∷ joined lines rest))

module _ {R : Type 0} (row : Spelling R) (key : R → List ℕ) (digits : ℕ) where
  -- behind the head, with these rows so far
  abbrev pub among : (last : List ℕ) → List R → Read R
  among last held = record { version = 1; ended = false; rows = held; last = last; pages = []; used = 0 }

  abbrev ended : (last : List ℕ) → List R → Read R
  ended last held = record { version = 1; ended = true; rows = held; last = last; pages = []; used = 0 }

  -- one line: a row
  step_row : (last : List ℕ) (held : List R) (line : List ℕ) → bytes_eq line last_line ≡ false
      → step row key digits (among last held) line ≡ placed row key (among last held) 0 true (row.value line)
  step_row last held line other = rw other refl

  placed_row : (last : List ℕ) (held : List R) (x : R) → is_below last (key x) ≡ true
      → placed row key (among last held) 0 true (Some x) ≡ Ok (among (key x) (held ++ x ∷ []))
  placed_row last held x above = rw above refl

  -- rows in order are read
  rows_back : AreLines row digits → (last : List ℕ) (held rows : List R) (count : ℕ) → Ascend row key last rows
      → (end : List ℕ) × (reading (step row key digits) count (among last held) (map row.text rows ++ last_line ∷ []) ≡ Ok (ended end (held ++ rows)))
  rows_back are last held [] count ascend = (last, ap (λ (rows : List R). Ok (ended last rows)) (sym (append-nil held)))
  rows_back are last held (x ∷ rows) count ascend =
      let behind = rows_back are (key x) (held ++ x ∷ []) rows (suc count) ascend.2 in
      let stepped = step_row last held (row.text x) (no_end (row.text x) (are.begins x ascend.0))
      ∙ ap (placed row key (among last held) 0 true) (are.exact.back x ascend.0) ∙ placed_row last held x ascend.1 in (
        behind.0,
        ap (counted count (λ next. reading (step row key digits) (suc count) next (map row.text rows ++ last_line ∷ []))) stepped
            ∙ behind.1 ∙ ap (λ (all : List R). Ok (ended behind.0 all)) (append_assoc held (x ∷ []) rows),
      )

  -- nothing is read behind the end
  pub ended_stays : (held : Read R) (count : ℕ) (lines : List (List ℕ)) (read : Read R) → held.ended ≡ true
      → reading (step row key digits) count held lines ≡ Ok read → (lines ≡ []) × (read ≡ held)
  ended_stays held count [] read end e = (refl, sym (same_Ok e))
  ended_stays held count (line ∷ lines) read end e = absurd (err-ok (rw end at e))

  -- what lines of rows are
  pub record AreRead (last : List ℕ) (held : List R) (lines : List (List ℕ)) (read : Read R) : Type 0 where
    pub rows : List R
    pub ascend : Ascend row key last rows
    pub lines_are : lines ≡ map row.text rows ++ last_line ∷ []
    pub rows_are : read.rows ≡ held ++ rows

  -- what is read is rows in order
  pub rows_only : AreLines row digits → (last : List ℕ) (held : List R) (count : ℕ) (lines : List (List ℕ)) (read : Read R)
      → reading (step row key digits) count (among last held) lines ≡ Ok read → read.ended ≡ true → AreRead last held lines read
  rows_only are last held count [] read e end = absurd (false≢true (ap (λ (r : Read R). r.ended) (same_Ok e) ∙ end))
  rows_only are last held count (line ∷ lines) read e end = elim (cases_Bool (bytes_eq line last_line)) [
    | inl is ↦
        let stays = ended_stays (ended last held) (suc count) lines read refl (rw is at e) in
        record {
          rows = [];
          ascend = tt;
          lines_are = ap₂ (λ (l : List ℕ) (ls : List (List ℕ)). l ∷ ls) (bytes_are line last_line is) stays.0;
          rows_are = ap (λ (r : Read R). r.rows) stays.1 ∙ sym (append-nil held);
        }
    | inr other ↦ elim (cases_Option (row.value line)) [
      | inl none ↦ absurd (err-ok (rw (other, none) at e))
      | inr found ↦ elim (cases_Bool (is_below last (key found.0))) [
        | inl above ↦
            let behind = rows_only are (key found.0) (held ++ found.0 ∷ []) (suc count) lines read (rw (other, found.1, above) at e) end in
            let is = are.exact.only line found.0 found.1 in
            record {
              rows = found.0 ∷ behind.rows;
              ascend = (is.0, above, behind.ascend);
              lines_are = ap₂ (λ (l : List ℕ) (ls : List (List ℕ)). l ∷ ls) (sym is.1) behind.lines_are;
              rows_are = behind.rows_are ∙ append_assoc held (found.0 ∷ []) behind.rows;
            }
        | inr low ↦ absurd (err-ok (rw (other, found.1, low) at e))
      ]
    ]
  ]

  -- WHOLE TEXTS

  rows_one_line : AreLines row digits → (last : List ℕ) (rows : List R) → Ascend row key last rows
      → AllByRecursion IsOneLine (map row.text rows ++ last_line ∷ [])
  rows_one_line are last [] ascend = (refl, tt)
  rows_one_line are last (x ∷ rows) ascend = (are.one_line x ascend.0, rows_one_line are (key x) rows ascend.2)

  pub listing1_is_read : AreLines row digits → (rows : List R) → Ascend row key [] rows
      → listed_by (step row key digits) (listing1_of row rows) ≡ Ok rows
  listing1_is_read are rows ascend =
      let cut = lines_cut-joined (older_line ∷ (map row.text rows ++ last_line ∷ [])) [] (refl, rows_one_line are [] rows ascend) refl in
      let read = rows_back are [] [] rows 1 ascend in
      ap (λ (c : List (List ℕ) × List ℕ). finish c.1 (length c.0 + 1) (reading (step row key digits) 0 at_first c.0)) cut
      ∙ ap (finish [] (length (older_line ∷ (map row.text rows ++ last_line ∷ [])) + 1)) read.1
