-- The report of works has a line for each item of each of them.
use Rattle.std.proofs.Common.{◌≡◌, ◌++◌, ℕ, List, [], ◌∷◌, Bool, true, false, refl, ap, sym, ◌∙◌, subst, inl, inr, append_assoc, append-nil}
use Rattle.std.specs.Prelude.{Contains, map, Option, codes}
use Rattle.std.specs.List.{flat_map}
use Rattle.std.specs.Ordering.{nat_cmp, match_ordering}
use Rattle.std.specs.BTreeSet.{insert_key}
use Rattle.std.specs.Cmp.Lexicographic.{slice_cmp}
use Rattle.std.specs.declared.cmp.Ordering.TheVariants.{Less, Equal, Greater}
use Rattle.std.proofs.lemmas.List.Elements.{Contains-append_left}
use Rattle.std.proofs.lemmas.Map.Lookups.{exact_bytes}
use Rattle.call_context.specs.declared.shown.Item.{Item}
use Rattle.item_lines.specs.Line.{item_line_of}
use Rattle.item_lines.specs.Shown.{EndsLine, HasLine}
use Rattle.chip_analysis.specs.declared.chip.Work.{Work}
use Rattle.report_bytes.specs.Opens.{open_line_of}
use Rattle.report_bytes.specs.declared.deepest.Deepest.{Deepest}
use Rattle.report_bytes.specs.Deepest.{deepest_of}
use Rattle.report_bytes.specs.Report.{with_lines, lines_of, head_line, summary_of, report_text, report_of, are_closed}
use Rattle.plain_lemmas.specs.Members.{in_cons, in_first, in_flat_map, in_map, in_none, in_rest}

-- a set of lines has what was put into it
in_insert_new : (set : List (List ℕ)) (line : List ℕ) → Contains (insert_key (slice_cmp nat_cmp) set line) line
in_insert_new [] line = in_first line []
in_insert_new (x ∷ xs) line = let rest = in_insert_new xs line in
    elim (slice_cmp nat_cmp line x) as (λ o. slice_cmp nat_cmp line x ≡ o → Contains (match_ordering o (line ∷ x ∷ xs) (x ∷ xs) (x ∷ insert_key (slice_cmp nat_cmp) xs line)) line) [
      | Less ↦ λ e. in_first line (x ∷ xs)
      | Equal ↦ λ e. subst (λ y. Contains (y ∷ xs) line) (exact_bytes line x e) (in_first line xs)
      | Greater ↦ λ e. in_rest x (insert_key (slice_cmp nat_cmp) xs line) line rest
    ] refl

in_insert_old : (set : List (List ℕ)) (line y : List ℕ) → Contains set y → Contains (insert_key (slice_cmp nat_cmp) set line) y
in_insert_old [] line y h = absurd (in_none y h)
in_insert_old (x ∷ xs) line y h = let rest = in_insert_old xs line y in
    elim (slice_cmp nat_cmp line x) as (λ o. Contains (match_ordering o (line ∷ x ∷ xs) (x ∷ xs) (x ∷ insert_key (slice_cmp nat_cmp) xs line)) y) [
      | Less ↦ in_rest line (x ∷ xs) y h
      | Equal ↦ h
      | Greater ↦ elim (in_cons x xs y h) [
        | inl same ↦ subst (λ z. Contains (x ∷ insert_key (slice_cmp nat_cmp) xs line) z) same (in_first x (insert_key (slice_cmp nat_cmp) xs line))
        | inr there ↦ in_rest x (insert_key (slice_cmp nat_cmp) xs line) y (rest there)
      ]
    ]

in_with_lines_old : (lines set : List (List ℕ)) (y : List ℕ) → Contains set y → Contains (with_lines set lines) y
in_with_lines_old [] set y h = h
in_with_lines_old (line ∷ lines) set y h = in_with_lines_old lines (insert_key (slice_cmp nat_cmp) set line) y (in_insert_old set line y h)

pub in_with_lines_new : (lines set : List (List ℕ)) (y : List ℕ) → Contains lines y → Contains (with_lines set lines) y
in_with_lines_new [] set y h = absurd (in_none y h)
in_with_lines_new (line ∷ lines) set y h = let more = insert_key (slice_cmp nat_cmp) set line in
    elim (in_cons line lines y h) [
      | inl same ↦ in_with_lines_old lines more y (subst (Contains more) same (in_insert_new set line))
      | inr rest ↦ in_with_lines_new lines more y rest
    ]

-- a text of lines has each of them, wherever it stands behind a line's end and before other bytes
behind : (before front : List ℕ) → EndsLine front → EndsLine (before ++ 10 ∷ []) → EndsLine ((before ++ 10 ∷ []) ++ front)
behind before front (inl none) ends = inr (before, ap (λ f. (before ++ 10 ∷ []) ++ f) none ∙ append-nil (before ++ 10 ∷ []))
behind before front (inr more) ends = inr ((before ++ 10 ∷ []) ++ more.0, ap (λ f. (before ++ 10 ∷ []) ++ f) more.1 ∙ sym (append_assoc (before ++ 10 ∷ []) more.0 (10 ∷ [])))

has_line-behind : (before text line : List ℕ) → HasLine text line → HasLine ((before ++ 10 ∷ []) ++ text) line
has_line-behind before text line h = record {
  front = (before ++ 10 ∷ []) ++ h.front;
  back = h.back;
  whole = ap (λ t. (before ++ 10 ∷ []) ++ t) h.whole ∙ (simp append_assoc);
  begins = behind before h.front h.begins (inr (before, refl));
}

has_line-before : (text after line : List ℕ) → HasLine text line → HasLine (text ++ after) line
has_line-before text after line h = record {
  front = h.front;
  back = h.back ++ after;
  whole = ap (λ t. t ++ after) h.whole ∙ (simp append_assoc);
  begins = h.begins;
}

has_line-body : (lines : List (List ℕ)) (line : List ℕ) → Contains lines line → HasLine (flat_map (λ l. l ++ 10 ∷ []) lines) line
has_line-body [] line h = absurd (in_none line h)
has_line-body (first ∷ lines) line h = let body = flat_map (λ l. l ++ 10 ∷ []) lines in
    elim (in_cons first lines line h) [
      | inl same ↦ record {
        front = [];
        back = body;
        whole = append_assoc first (10 ∷ []) body ∙ ap (λ l. l ++ 10 ∷ body) same;
        begins = inl refl;
      }
      | inr rest ↦ has_line-behind first body line (has_line-body lines line rest)
    ]

head_ends : (closed : Bool) → (before : List ℕ) × (head_line closed ≡ before ++ 10 ∷ [])
head_ends true = (codes "CLOSED", refl)
head_ends false = (codes "OPEN", refl)

-- the report has each line that is put into it
pub report_has : (closed : Bool) (lines : List (List ℕ)) (deepest : Option Deepest) (line : List ℕ)
    → Contains lines line → HasLine (report_text closed lines deepest) line
report_has closed lines deepest line h =
    let head = head_ends closed in
    let body = flat_map (λ l. l ++ 10 ∷ []) lines in
    let within = has_line-before ((head.0 ++ 10 ∷ []) ++ body) (summary_of deepest lines) line (has_line-behind head.0 body line (has_line-body lines line h)) in
    subst (λ front. HasLine ((front ++ body) ++ summary_of deepest lines) line) (sym head.1) within

-- the report of works has the line of each item, and of each open
pub report_has_item : {A : Type 0} (text : ℕ → List ℕ → List ℕ) (works : List (Work A)) (work : Work A) (item : Item)
    → Contains works work → Contains work.items item
    → HasLine (report_of text true works) (item_line_of text item)
report_has_item text works work item w i =
    report_has (are_closed works) (with_lines [] (flat_map (lines_of text) works)) (deepest_of _ (flat_map (λ w. w.items) works)) (item_line_of text item)
    (in_with_lines_new (flat_map (lines_of text) works) [] (item_line_of text item)
    (in_flat_map (lines_of text) works work (item_line_of text item) w
    (Contains-append_left (map (item_line_of text) work.items) (map (λ o. open_line_of o.0 o.1) work.opens) (item_line_of text item)
    (in_map (item_line_of text) work.items item i))))
