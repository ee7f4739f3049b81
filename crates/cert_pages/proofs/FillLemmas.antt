-- Pages that are named one after the other.
use Rattle.std.proofs.Common.{Bool, ◌≡◌, ℕ, ◌+◌, refl, sym, ap, ap₂, ◌∙◌, true, false, inl, inr, Option, None, Some, List, [], ◌∷◌, ◌++◌, append_assoc}
use Rattle.std.specs.Prelude.{◌&&◌, nat_le, option_map, option_and_then, if◌then◌else◌}
use Rattle.std.proofs.lemmas.Bool.{cases_Bool}
use Rattle.std.proofs.lemmas.List.{append-nil}
use Rattle.std.proofs.lemmas.Option.{none-some, same_Some}
use Rattle.state_text.specs.Cells.{Parts, cells_in, whole}
use Rattle.cert_pages.specs.Pages.{Filled, Page, before, block_in, cells_text, dashed, dashed_cells, filled, filled_by, names_in, next_page, onto_named, page_at, pages_named, unless_below, used_with, with_cells}

and_assoc : (a b c : Bool) → (a && (b && c)) ≡ ((a && b) && c)
and_assoc true b c = refl
and_assoc false b c = refl

and_true : (a : Bool) → (a && true) ≡ a
and_true true = refl
and_true false = refl

module _ (digits : ℕ) (pages : List Page) where
  abbrev pub with_page : List ℕ → Page → List ℕ
  with_page text page = (text ++ 59 ∷ []) ++ page

  later_of : (text : List ℕ) (turn : Bool) (used : ℕ) (found : ℕ × Page) (later : Option (Filled (List Page)))
      → option_map (onto_named text turn) (option_map (before used found) later)
      ≡ option_map (onto_named (with_page text found.1) (turn && nat_le found.0 used)) later
  later_of text turn used found None = refl
  later_of text turn used found (Some later) =
      let read : text ++ (59 ∷ (found.1 ++ cells_text later.read)) ≡ with_page text found.1 ++ cells_text later.read =
      sym (append_assoc text (59 ∷ []) (found.1 ++ cells_text later.read)) ∙ sym (append_assoc (text ++ 59 ∷ []) found.1 (cells_text later.read)) in
      ap₂ (λ (t : List ℕ) (b : Bool). Some (record { read = t; used = later.used; in_turn = b })) read
      (and_assoc turn (nat_le found.0 used) later.in_turn)

  abbrev go : (used least : ℕ) → List (List ℕ) → ℕ × Page → Option (Filled (List Page))
  go used least names found = if nat_le least (block_in digits found.1)
      then option_map (before used found) (pages_named digits pages (used_with used found.0) (block_in digits found.1 + 1) names)
      else None

  one_of : (used least : ℕ) (names : List (List ℕ)) (text : List ℕ) (turn : Bool) (at : Option (ℕ × Page)) (found : ℕ × Page)
      → option_and_then (unless_below digits least) at ≡ Some found
      → option_map (onto_named text turn) (option_and_then (go used least names) at)
      ≡ option_map (onto_named (with_page text found.1) (turn && nat_le found.0 used))
      (pages_named digits pages (used_with used found.0) (block_in digits found.1 + 1) names)
  one_of used least names text turn None found e = absurd (none-some found e)
  one_of used least names text turn (Some at) found e = elim (cases_Bool (nat_le least (block_in digits at.1))) [
    | inl above ↦
        let same = same_Some at found (rw above at e) in
        rw above (later_of text turn used at (pages_named digits pages (used_with used at.0) (block_in digits at.1 + 1) names))
        ∙ ap (λ (f : ℕ × Page). option_map (onto_named (with_page text f.1) (turn && nat_le f.0 used))
        (pages_named digits pages (used_with used f.0) (block_in digits f.1 + 1) names)) same
    | inr below ↦ absurd (none-some found (rw below at e))
  ]

  -- one more page
  pub one_more : (used least : ℕ) (name : List ℕ) (names : List (List ℕ)) (text : List ℕ) (turn : Bool) (found : ℕ × Page)
      → Some found ≡ next_page digits pages least name
      → option_map (onto_named text turn) (pages_named digits pages used least (name ∷ names))
      ≡ option_map (onto_named (with_page text found.1) (turn && nat_le found.0 used))
      (pages_named digits pages (used_with used found.0) (block_in digits found.1 + 1) names)
  one_more used least name names text turn found e = one_of used least names text turn (page_at 0 pages name) found (sym e)

  none_of : (used least : ℕ) (names : List (List ℕ)) (text : List ℕ) (turn : Bool) (at : Option (ℕ × Page))
      → option_and_then (unless_below digits least) at ≡ None
      → option_map (onto_named text turn) (option_and_then (go used least names) at) ≡ None
  none_of used least names text turn None e = refl
  none_of used least names text turn (Some at) e = elim (cases_Bool (nat_le least (block_in digits at.1))) [
    | inl above ↦ absurd (none-some at (sym (rw above at e)))
    | inr below ↦ rw below refl
  ]

  -- a name that is none
  pub no_more : (used least : ℕ) (name : List ℕ) (names : List (List ℕ)) (text : List ℕ) (turn : Bool)
      → None ≡ next_page digits pages least name
      → option_map (onto_named text turn) (pages_named digits pages used least (name ∷ names)) ≡ None
  no_more used least name names text turn e = none_of used least names text turn (page_at 0 pages name) (sym e)

  abbrev pub with_text : (used : ℕ) → (text : List ℕ) → (turn : Bool) → Option (Filled (List ℕ))
  with_text used text turn = Some (record { read = text; used = used; in_turn = turn })

  -- no name is left
  pub none_left : (used : ℕ) (text : List ℕ) (turn : Bool) → with_text used (text ++ []) (turn && true) ≡ with_text used text turn
  none_left used text turn = ap₂ (λ (t : List ℕ) (b : Bool). with_text used t b) (append-nil text) (and_true turn)

-- PUT BACK

dashed_so : (page : Page) (pages : List Page) → page ++ cells_text pages ≡ dashed 59 (page ∷ pages)
dashed_so page [] = append-nil page
dashed_so page (other ∷ pages) = ap (λ (t : List ℕ). page ++ 59 ∷ t) (dashed_so other pages)

dashed_are : (pages : List Page) → dashed_cells (cells_text pages) ≡ dashed 59 pages
dashed_are [] = refl
dashed_are (page ∷ pages) = dashed_so page pages

-- the text with the cells
abbrev pub put : Parts → Filled (List ℕ) → Filled (List ℕ)
put parts found = record { read = whole (parts.0, dashed_cells found.read, parts.2); used = found.used; in_turn = found.in_turn }

put_of : (parts : Parts) (found : Option (Filled (List Page)))
    → option_map (put parts) (option_map (onto_named [] true) found) ≡ option_map (with_cells parts) found
put_of parts None = refl
put_of parts (Some found) =
    ap (λ (t : List ℕ). Some (record { read = whole (parts.0, t, parts.2); used = found.used; in_turn = found.in_turn })) (dashed_are found.read)

pub put_back : (digits : ℕ) (pages : List Page) (used : ℕ) (text : List ℕ) (parts : Parts) (found : Option (Filled (List ℕ)))
    → Some parts ≡ cells_in text → found ≡ option_map (onto_named [] true) (pages_named digits pages used 0 (names_in parts.1))
    → option_map (put parts) found ≡ filled digits pages used text
unfolding filled
put_back digits pages used text parts found is e =
    ap (option_map (put parts)) e ∙ put_of parts (pages_named digits pages used 0 (names_in parts.1))
    ∙ ap (filled_by digits pages used text) is

pub no_cells : (digits : ℕ) (pages : List Page) (used : ℕ) (text : List ℕ) → None ≡ cells_in text
    → with_text digits pages used text true ≡ filled digits pages used text
unfolding filled
no_cells digits pages used text is = ap (filled_by digits pages used text) is
