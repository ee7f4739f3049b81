-- A text by its whole lines and the line that has begun, and one that goes on.
use Rattle.std.proofs.Common.{◌≡◌, ℕ, suc, take, drop, get_or, subst, ◌+◌, ◌<◌, ◌≤◌, ◌^◌, refl, sym, ap, ◌∙◌, arith, append_assoc, length-append, true, false, List, [], ◌∷◌, ◌++◌, length, map, Ok, Err}
use Rattle.std.specs.Prelude.{◌==◌, ◌&&◌}
use Rattle.std.specs.List.{AllByRecursion}
use Rattle.std.proofs.lemmas.List.{length-map, take-append-drop}
use Rattle.std.proofs.Math.Seq.{take-suc}
use Rattle.call_context.specs.declared.node.Node.{Node}
use Rattle.chip_analysis.specs.Analysis.{Analysis}
use Rattle.text_fields.specs.Lines.{IsOneLine, counted, joined, joined-line, joined-rest, lines_cut-joined, lines_cut-more, read_on, reading, reading-append, whole_lines}
use Rattle.text_fields.specs.Spelling.{has_byte-both}
use Rattle.state_text.specs.Texts.{StateTexts}
use Rattle.cert_text.specs.declared.fault.LineFault.{LineFault}
use Rattle.cert_text.specs.declared.fault.LineFault.TheVariants.{Syntax}
use Rattle.cert_text.specs.declared.fault.ReadError.{ReadError}
use Rattle.cert_text.specs.declared.fault.ReadError.TheVariants.{Bad, Memory}
use Rattle.cert_text.specs.Certificate.{Read, at_first, finish, first_behind, first_row, is_empty, node_text, table_of, table_row, table_step}
use Rattle.cert_text.proofs.PagedLemmas.{lines_counts}
use Rattle.cert_text.specs.Reading.{HasRead, IsFaultyFront, TellsFront, TellsLine}
use Rattle.cert_text.proofs.RowLemmas.{err-ok, lines_fit}

pub joined_feed : (lines : List (List ℕ)) (line : List ℕ) → joined (lines ++ line ∷ []) [] ≡ joined lines line ++ 10 ∷ []
joined_feed lines line = joined-line lines line [] ∙ sym (joined-rest lines line (10 ∷ []))

pub joined_more : (lines : List (List ℕ)) (rest more : List ℕ) → joined lines (rest ++ more) ≡ joined lines rest ++ more
joined_more lines rest more = sym (joined-rest lines rest more)

lines_one : (lines : List (List ℕ)) (line : List ℕ) → AllByRecursion IsOneLine lines → IsOneLine line
    → AllByRecursion IsOneLine (lines ++ line ∷ [])
lines_one [] line are is = (is, tt)
lines_one (first ∷ lines) line are is = (are.0, lines_one lines line are.1 is)

-- a further byte of a piece
pub piece_step : (text piece : List ℕ) (i : ℕ) → i < length piece
    → (text ++ take i piece) ++ get_or piece i 0 ∷ [] ≡ text ++ take (i + 1) piece
piece_step text piece i h =
    let next : i + 1 ≡ suc i = omega arith in
    rw next (append_assoc text (take i piece) (get_or piece i 0 ∷ []) ∙ ap (λ t. text ++ t) (sym (take-suc piece i 0 h)))

pub count_lines : {A : Type 0} (line_of : A → List ℕ) (items : List A) (n size : ℕ) → n ≡ size → size ≡ length items
    → n ≡ length (map line_of items)
count_lines line_of items n size count is = count ∙ is ∙ sym (length-map items line_of)

-- the line behind so many others has a number
pub has_number : {A : Type 0} (line_of : A → List ℕ) (items : List A) (rest : List ℕ) (n size : ℕ) → n ≡ size → size ≡ length items
    → length (joined (map line_of items) rest) ≤ 268435456 → n + 1 < 2 ^ 32
has_number line_of items rest n size count is small =
    omega (arith, count_lines line_of items n size count is, lines_fit (map line_of items) rest, small)

module _ {A : Type 0} (a : Analysis A) (texts : StateTexts A) where
  -- the line behind others
  pub one_more : (lines : List (List ℕ)) (line : List ℕ) (read : Read (Node × A)) → reading (table_step a texts) 0 at_first lines ≡ Ok read
      → reading (table_step a texts) 0 at_first (lines ++ line ∷ []) ≡ counted (length lines) Ok (table_step a texts read line)
  one_more lines line read e =
      let none : 0 + length lines ≡ length lines = omega arith in
      reading-append (table_step a texts) 0 at_first lines (line ∷ []) ∙ ap (read_on (table_step a texts) (0 + length lines) (line ∷ [])) e
      ∙ ap (λ n. counted n Ok (table_step a texts read line)) none

  -- a byte of the line
  pub read_byte : (lines : List (List ℕ)) (line : List ℕ) (read : Read (Node × A)) (b : ℕ)
      → HasRead a texts lines line read → (b == 10) ≡ false
      → length (joined lines line) < 268435456 → HasRead a texts lines (line ++ b ∷ []) read
  read_byte lines line read b so_far other room = record {
    whole = so_far.whole;
    begun = has_byte-both 10 line (b ∷ []) so_far.begun (rw other refl);
    reads = so_far.reads;
    small = rw (joined_more lines line (b ∷ [])) (omega (arith, length-append (joined lines line) (b ∷ []), room));
  }

  -- the line feed behind the line
  pub read_feed : (lines : List (List ℕ)) (line : List ℕ) (read next : Read (Node × A)) → HasRead a texts lines line read
      → table_step a texts read line ≡ Ok next → length (joined lines line) < 268435456 → HasRead a texts (lines ++ line ∷ []) [] next
  read_feed lines line read next so_far step room = record {
    whole = lines_one lines line so_far.whole so_far.begun;
    begun = refl;
    reads = one_more lines line read so_far.reads ∙ ap (counted (length lines) Ok) step;
    small = rw (joined_feed lines line) (omega (arith, length-append (joined lines line) (10 ∷ []), room));
  }

  -- no line is at fault
  pub none_refused : (lines : List (List ℕ)) (line : List ℕ) (read : Read (Node × A)) (number : ℕ) (fault : LineFault)
      → HasRead a texts lines line read
      → IsFaultyFront a texts (joined lines line) number fault → ⊥
  none_refused lines line read number fault so_far refused =
      let cut = ap (λ (c : List (List ℕ) × List ℕ). c.0) (lines_cut-joined lines line so_far.whole so_far.begun) in
      err-ok (sym refused ∙ ap (reading (table_step a texts) 0 at_first) cut ∙ so_far.reads)

  -- what the next line's error tells of the text with its line feed
  pub tells_feed : (lines : List (List ℕ)) (line : List ℕ) (read : Read (Node × A)) (number : ℕ) (error : ReadError)
      → HasRead a texts lines line read
      → number ≡ length lines + 1 → TellsLine (table_step a texts read line) number error
      → TellsFront a texts (joined lines line ++ 10 ∷ []) error
  tells_feed lines line read number (Bad at fault) so_far count tells =
      let whole : whole_lines (joined lines line ++ 10 ∷ []) ≡ lines ++ line ∷ [] =
      ap whole_lines (sym (joined_feed lines line))
      ∙ ap (λ (c : List (List ℕ) × List ℕ). c.0) (lines_cut-joined (lines ++ line ∷ []) [] (lines_one lines line so_far.whole so_far.begun) refl) in
      let same : suc (length lines) ≡ at = omega (arith, tells.0, count) in
      ap (reading (table_step a texts) 0 at_first) whole ∙ one_more lines line read so_far.reads ∙ ap (counted (length lines) Ok) tells.1
      ∙ ap (λ n. Err (n, fault)) same
  tells_feed lines line read number Memory so_far count tells = tt

  -- an error of a front stays
  tells_more : (text more : List ℕ) (error : ReadError) → TellsFront a texts text error → TellsFront a texts (text ++ more) error
  tells_more text more (Bad at fault) tells =
      let longer = lines_cut-more text more in
      ap (reading (table_step a texts) 0 at_first) longer.1 ∙ reading-append (table_step a texts) 0 at_first (whole_lines text) longer.0
      ∙ ap (read_on (table_step a texts) (0 + length (whole_lines text)) longer.0) tells
  tells_more text more Memory tells = tt

  -- what is told at a byte of a piece is told of the piece
  pub tells_piece : (text piece : List ℕ) (i : ℕ) (error : ReadError) → i < length piece
      → TellsFront a texts ((text ++ take i piece) ++ get_or piece i 0 ∷ []) error → TellsFront a texts (text ++ piece) error
  tells_piece text piece i error h tells =
      let whole : (text ++ take (i + 1) piece) ++ drop (i + 1) piece ≡ text ++ piece =
      append_assoc text (take (i + 1) piece) (drop (i + 1) piece) ∙ ap (λ t. text ++ t) (take-append-drop (i + 1) piece) in
      subst (λ t. TellsFront a texts t error) whole
      (tells_more (text ++ take (i + 1) piece) (drop (i + 1) piece) error (rw (piece_step text piece i h) at tells))

  -- the table of the text as it stands
  pub as_it_stands : (lines : List (List ℕ)) (line : List ℕ) (read : Read (Node × A)) → HasRead a texts lines line read
      → table_of a texts (joined lines line) ≡ finish line (length lines + 1) (Ok read)
  as_it_stands lines line read so_far =
      ap (λ (c : List (List ℕ) × List ℕ). finish c.1 (length c.0 + 1) (reading (table_step a texts) 0 at_first c.0))
      (lines_cut-joined lines line so_far.whole so_far.begun)
      ∙ ap (finish line (length lines + 1)) so_far.reads

  -- each row and each page has its line
  pub few : (lines : List (List ℕ)) (line : List ℕ) (read : Read (Node × A)) → HasRead a texts lines line read
      → length read.rows + length read.pages ≤ 268435456
  unfolding table_step
  few lines line read so_far =
      let counted_so = lines_counts (table_row a texts) (node_text texts) texts.digits at_first read 0 lines so_far.reads in
      omega (arith, counted_so, lines_fit lines line, so_far.small)

  -- the line behind the pages
  pub first_is : (lines : List (List ℕ)) (line : List ℕ) (read : Read (Node × A)) → HasRead a texts lines line read
      → first_row a texts (joined lines line) ≡ 2 + length read.pages
  first_is lines line read so_far =
      ap (λ (c : List (List ℕ) × List ℕ). first_behind (reading (table_step a texts) 0 at_first c.0))
      (lines_cut-joined lines line so_far.whole so_far.begun) ∙ ap first_behind so_far.reads

  pub fresh_read : HasRead a texts [] [] at_first
  fresh_read = record { whole = tt; begun = refl; reads = refl; small = omega arith }

module _ {R : Type 0} where
  pub finish_complete : (rest : List ℕ) (number : ℕ) (read : Read R) → (read.ended && is_empty rest) ≡ true
      → finish rest number (Ok read) ≡ Ok read.rows
  finish_complete rest number read complete = rw complete refl

  pub finish_bad : (rest : List ℕ) (number : ℕ) (read : Read R) → (read.ended && is_empty rest) ≡ false
      → finish rest number (Ok read) ≡ Err (number, Syntax)
  finish_bad rest number read incomplete = rw incomplete refl
