-- The field of the cells, which is looked for field by field.
use Rattle.std.proofs.Common.{◌≡◌, ℕ, suc, ◌+◌, ◌≤◌, refl, sym, ap, ap₂, ◌∙◌, subst, true, false, inl, inr, arith, Option, None, Some, List, [], ◌∷◌, ◌++◌, append_assoc, length, length-append, take, drop}
use Rattle.std.specs.Prelude.{option_map, codes}
use Rattle.std.specs.List.{join_with_byte, slice_split}
use Rattle.std.proofs.lemmas.List.{append-nil, length-take-le, take-append-drop}
use Rattle.std.proofs.lemmas.List.Splits.{join_with_byte-slice_split, length-slice_split}
use Rattle.std.proofs.Math.Seq.{drop-append_seam, take-append_seam}
use Rattle.text_fields.specs.Fields.{behind, cut_at, cut_only}
use Rattle.state_text.specs.Cells.{Parts, cells_in, parts_among, parts_by, spaced}
use Rattle.cert_pages.specs.Pages.{behind_front, cut_by}
use Rattle.cert_pages.specs.Blocks.{cut_some}
use Rattle.cert_pages.proofs.BlockLemmas.{cut_first, cut_last}

joined : (field : List ℕ) (fields : List (List ℕ)) → join_with_byte 32 (field ∷ fields) ≡ field ++ spaced fields
joined field [] = sym (append-nil field)
joined field (other ∷ fields) = ap (λ (t : List ℕ). field ++ 32 ∷ t) (joined other fields)

spaced_some : (fields : List (List ℕ)) → 1 ≤ length fields → spaced fields ≡ 32 ∷ join_with_byte 32 fields
spaced_some [] some = absurd (omega (arith, some))
spaced_some (field ∷ fields) some = ap (λ (t : List ℕ). 32 ∷ t) (sym (joined field fields))

spaced_cut : (rest : List ℕ) → spaced (cut_by 32 rest) ≡ 32 ∷ rest
spaced_cut rest = spaced_some (cut_by 32 rest) (cut_some 32 rest) ∙ ap (λ (t : List ℕ). 32 ∷ t) (join_with_byte-slice_split 32 rest)

-- the only field
pub last_field : (text : List ℕ) → None ≡ cut_at 32 text → cells_in text ≡ parts_by text [] (behind (codes "M=") text) None
last_field text e = ap parts_among (cut_last 32 text e)

pub first_field : (text field rest : List ℕ) → Some (field, rest) ≡ cut_at 32 text
    → cells_in text ≡ parts_by field (cut_by 32 rest) (behind (codes "M=") field) (cells_in rest)
first_field text field rest e = ap parts_among (cut_first 32 text field rest e)

front_alone : (front : List ℕ) → front ++ [] ≡ front
front_alone front = append-nil front

-- it has the name
pub last_named : (front text cells : List ℕ) → None ≡ cut_at 32 text → Some cells ≡ behind (codes "M=") text
    → Some (front, cells, []) ≡ option_map (behind_front front) (cells_in text)
last_named front text cells e is =
    ap (λ (f : List ℕ). Some (f, cells, [])) (sym (append-nil front))
    ∙ ap (λ found. option_map (behind_front front) (parts_by text [] found None)) is
    ∙ ap (option_map (behind_front front)) (sym (last_field text e))

pub last_other : (front text : List ℕ) → None ≡ cut_at 32 text → None ≡ behind (codes "M=") text
    → None ≡ option_map (behind_front front) (cells_in text)
last_other front text e is =
    ap (λ found. option_map (behind_front front) (parts_by text [] found None)) is
    ∙ ap (option_map (behind_front front)) (sym (last_field text e))

pub first_named : (front text field rest cells : List ℕ) → Some (field, rest) ≡ cut_at 32 text → Some cells ≡ behind (codes "M=") field
    → Some (front, cells, drop (length field) text) ≡ option_map (behind_front front) (cells_in text)
first_named front text field rest cells e is =
    let whole = (cut_only 32 text (field, rest) (sym e)).0 in
    let left : drop (length field) text ≡ spaced (cut_by 32 rest) =
    ap (drop (length field)) (sym whole) ∙ drop-append_seam field (32 ∷ rest) ∙ sym (spaced_cut rest) in
    ap₂ (λ (f l : List ℕ). Some (f, cells, l)) (sym (append-nil front)) left
    ∙ ap (λ found. option_map (behind_front front) (parts_by field (cut_by 32 rest) found (cells_in rest))) is
    ∙ ap (option_map (behind_front front)) (sym (first_field text field rest e))

-- a place behind a field
pub place_behind : (text field rest : List ℕ) (place : ℕ) → place ≤ length text → Some (field, rest) ≡ cut_at 32 (drop place text)
    → (drop (place + length field + 1) text ≡ rest) × (take (place + length field + 1) text ≡ take place text ++ (field ++ 32 ∷ []))
    × (place + length field + 1 ≤ length text)
place_behind text field rest place inside e =
    let whole = (cut_only 32 (drop place text) (field, rest) (sym e)).0 in
    let front = take place text ++ (field ++ 32 ∷ []) in
    let all : text ≡ front ++ rest =
    sym (take-append-drop place text) ∙ ap (λ (t : List ℕ). take place text ++ t) (sym whole)
    ∙ ap (λ (t : List ℕ). take place text ++ t) (sym (append_assoc field (32 ∷ []) rest)) ∙ sym (append_assoc (take place text) (field ++ 32 ∷ []) rest) in
    let long : place + length field + 1 ≡ length front =
    omega (arith, length-append (take place text) (field ++ 32 ∷ []), length-append field (32 ∷ []), length-take-le place text inside) in (
      ap₂ (λ n (t : List ℕ). drop n t) long all ∙ drop-append_seam front rest,
      ap₂ (λ n (t : List ℕ). take n t) long all ∙ take-append_seam front rest,
      omega (arith, long, ap length all, length-append front rest),
    )

front_more : (front field : List ℕ) (found : Option Parts)
    → option_map (behind_front (front ++ (field ++ 32 ∷ []))) found
    ≡ option_map (behind_front front) (option_map (λ parts. (field ++ 32 ∷ parts.0, parts.1, parts.2)) found)
front_more front field None = refl
front_more front field (Some parts) =
    ap (λ (f : List ℕ). Some (f, parts.1, parts.2)) (append_assoc front (field ++ 32 ∷ []) parts.0
    ∙ ap (λ (f : List ℕ). front ++ f) (append_assoc field (32 ∷ []) parts.0))

-- it hasn't: what stands behind it is looked at
pub next_field : (text field rest : List ℕ) (place : ℕ) → place ≤ length text → Some (field, rest) ≡ cut_at 32 (drop place text)
    → None ≡ behind (codes "M=") field
    → option_map (behind_front (take (place + length field + 1) text)) (cells_in (drop (place + length field + 1) text))
    ≡ option_map (behind_front (take place text)) (cells_in (drop place text))
next_field text field rest place inside e is =
    let at = place_behind text field rest place inside e in
    ap₂ (λ (f t : List ℕ). option_map (behind_front f) (cells_in t)) at.1 at.0
    ∙ front_more (take place text) field (cells_in rest)
    ∙ ap (λ found. option_map (behind_front (take place text)) (parts_by field (cut_by 32 rest) found (cells_in rest))) is
    ∙ ap (option_map (behind_front (take place text))) (sym (first_field (drop place text) field rest e))

-- a field is no longer than the text
pub field_fits : (text field rest : List ℕ) → Some (field, rest) ≡ cut_at 32 text → length field ≤ length text
field_fits text field rest e =
    let whole = (cut_only 32 text (field, rest) (sym e)).0 in
    omega (arith, ap length whole, length-append field (32 ∷ rest))
