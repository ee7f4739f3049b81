-- The lines of a stretch, one behind the other, and of two stretches and the end record.
use Rattle.std.proofs.Common.{◌≡◌, ℕ, ◌+◌, ◌-◌, ◌*◌, ◌/◌, ◌<◌, ◌≤◌, min, zero, suc, false, List, [], ◌∷◌, ◌++◌, length, take, drop, None, refl, sym, ◌∙◌, ap, append_assoc, append-nil, length-drop, length-take, subst, codes, arith}
use Rattle.std.proofs.lemmas.List.Elements.{All-take, All-drop}
use Rattle.image_gen.specs.Records.{each, end_line, record_of, stretch_lines}
use Rattle.image.specs.declared.rule_set.Rules.{Rules}
use Rattle.ihex_read.specs.ImageText.{Ends, fault_of, lacks_reset, placed_of}
use Rattle.text_lines.specs.Lines.{lines_of}
use Rattle.made_programs.proofs.Accepted.{IsFree, IsLaid, laid_below, laid_more}
use Rattle.made_programs.proofs.Digits.{AreBytes}
use Rattle.made_programs.proofs.RecordLines.{IsRow, line_at, line_found}

-- the bytes of a stretch's record
abbrev row_of : List ℕ → ℕ → List ℕ
row_of bytes k = take 16 (drop (16 * k) bytes)

-- the lines of the first records of a stretch
abbrev pub rows_upto : ℕ → List ℕ → ℕ → List (List ℕ)
rows_upto at bytes zero = []
rows_upto at bytes (suc k) = rows_upto at bytes k ++ line_at (at + 16 * k) (row_of bytes k) ∷ []

abbrev pub rows_of : ℕ → List ℕ → List (List ℕ)
rows_of at bytes = rows_upto at bytes ((length bytes + 15) / 16)

-- bytes from an address on in memory
pub record IsStretch (at : ℕ) (bytes : List ℕ) : Type 0 where
  pub fits : at + length bytes ≤ 65536
  pub bytes_are : AreBytes bytes

length-row : (bytes : List ℕ) (k : ℕ) → length (row_of bytes k) ≡ min 16 (length bytes - 16 * k)
length-row bytes k = length-take 16 (drop (16 * k) bytes) ∙ ap (min 16) (length-drop (16 * k) bytes)

is_row : (at : ℕ) (bytes : List ℕ) (k : ℕ) → IsStretch at bytes → 16 * k < length bytes → IsRow (at + 16 * k) (row_of bytes k)
is_row at bytes k stretch more =
    let long = length-row bytes k in
    let small : ℕ → Type 0 = λ x. x < 256 in
    record {
      starts = omega (arith, stretch.fits);
      short = omega arith;
      bytes_are = All-take small 16 (drop (16 * k) bytes) (All-drop small (16 * k) bytes stretch.bytes_are);
    }

more_left : (k n : ℕ) → suc k ≤ (n + 15) / 16 → 16 * k < n
more_left k n h = omega arith

-- the reader finds the lines
found_upto : (at : ℕ) (bytes text : List ℕ) (k : ℕ) → IsStretch at bytes → k ≤ (length bytes + 15) / 16
    → lines_of (each (record_of at bytes) k ++ text) ≡ rows_upto at bytes k ++ lines_of text
unfolding each
found_upto at bytes text zero stretch h = refl
found_upto at bytes text (suc k) stretch h =
    let line = line_at (at + 16 * k) (row_of bytes k) in
    let row = is_row at bytes k stretch (more_left k (length bytes) h) in
    ap lines_of (append_assoc (each (record_of at bytes) k) (record_of at bytes k) text)
    ∙ found_upto at bytes (record_of at bytes k ++ text) k stretch (omega arith)
    ∙ ap (λ lines. rows_upto at bytes k ++ lines) (line_found (at + 16 * k) (row_of bytes k) text row)
    ∙ sym (append_assoc (rows_upto at bytes k) (line ∷ []) (lines_of text))

pub found : (at : ℕ) (bytes text : List ℕ) → IsStretch at bytes
    → lines_of (stretch_lines at bytes ++ text) ≡ rows_of at bytes ++ lines_of text
found at bytes text stretch = found_upto at bytes text ((length bytes + 15) / 16) stretch (omega arith)

-- a row more
row_end : (at k n size : ℕ) → 16 * k < n → size ≡ min 16 (n - 16 * k) → at + 16 * k + size ≡ at + min (16 * suc k) n
row_end at k n size more is = omega arith

laid_upto : (rules : Rules) (lines : List (List ℕ)) (at : ℕ) (bytes : List ℕ) (k : ℕ) → IsLaid rules lines at
    → IsStretch at bytes → IsFree rules at
    → k ≤ (length bytes + 15) / 16 → IsLaid rules (lines ++ rows_upto at bytes k) (at + min (16 * k) (length bytes))
laid_upto rules lines at bytes zero laid stretch free h = rw append-nil (laid_below rules lines at (at + min 0 (length bytes)) laid (omega arith))
laid_upto rules lines at bytes (suc k) laid stretch free h =
    let more = more_left k (length bytes) h in
    let long = length-row bytes k in
    let line = line_at (at + 16 * k) (row_of bytes k) in
    let former = laid_upto rules lines at bytes k laid stretch free (omega arith) in
    let next =
    laid_more rules (lines ++ rows_upto at bytes k) (at + min (16 * k) (length bytes)) (at + 16 * k) (row_of bytes k) former (omega arith)
    (is_row at bytes k stretch more) (omega (arith, stretch.fits)) (λ place above. free place (omega arith)) in
    let top = row_end at k (length bytes) (length (row_of bytes k)) more long in
    subst (λ xs. IsLaid rules xs (at + min (16 * suc k) (length bytes))) (append_assoc lines (rows_upto at bytes k) (line ∷ []))
    (subst (IsLaid rules ((lines ++ rows_upto at bytes k) ++ line ∷ [])) top next)

-- a stretch behind lines whose bytes stand below it
pub laid_stretch : (rules : Rules) (lines : List (List ℕ)) (at : ℕ) (bytes : List ℕ) → IsLaid rules lines at
    → IsStretch at bytes → IsFree rules at
    → IsLaid rules (lines ++ rows_of at bytes) (at + length bytes)
laid_stretch rules lines at bytes laid stretch free =
    let all : min (16 * ((length bytes + 15) / 16)) (length bytes) ≡ length bytes = omega arith in
    subst (λ n. IsLaid rules (lines ++ rows_of at bytes) (at + n)) all
    (laid_upto rules lines at bytes ((length bytes + 15) / 16) laid stretch free (omega arith))

-- the end record's line
abbrev pub last_line : List ℕ
last_line = codes ":00000001FF"

pub two_found : (at : ℕ) (bytes : List ℕ) (next : ℕ) (more : List ℕ) → IsStretch at bytes → IsStretch next more
    → lines_of (stretch_lines at bytes ++ stretch_lines next more ++ end_line) ≡ (rows_of at bytes ++ rows_of next more) ++ last_line ∷ []
two_found at bytes next more first second =
    ap lines_of (append_assoc (stretch_lines at bytes) (stretch_lines next more) end_line)
    ∙ found at bytes (stretch_lines next more ++ end_line) first
    ∙ ap (λ lines. rows_of at bytes ++ lines) (found next more end_line second)
    ∙ sym (append_assoc (rows_of at bytes) (rows_of next more) (last_line ∷ []))

-- the end record behind open lines
end_accepted : (rules : Rules) (lines : List (List ℕ)) → lacks_reset rules (placed_of lines) ≡ false → fault_of rules lines last_line ≡ None
end_accepted rules lines resets = rw resets refl

pub two_end : (rules : Rules) (text lines : List (List ℕ)) (top : ℕ) → text ≡ lines ++ last_line ∷ [] → IsLaid rules lines top
    → lacks_reset rules (placed_of lines) ≡ false → Ends rules text lines last_line []
two_end rules text lines top whole laid resets = record {
  whole = whole;
  open_before = laid.all_open;
  accepted = end_accepted rules lines resets;
  ends = refl;
}
