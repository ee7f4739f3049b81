-- Lines of a text, one after the other, and what they give.
use Rattle.std.proofs.Common.{◌≡◌, ◌++◌, ℕ, suc, ◌+◌, List, [], ◌∷◌, false, Option, None, Some}
use Rattle.std.proofs.Common.{Result, Ok, Err, refl, ap, sym, ◌∙◌, inl, inr, length, add-one, append_assoc, append-nil}
use Rattle.std.specs.Prelude.{◌==◌, option_map}
use Rattle.std.proofs.lemmas.Bool.{cases_Bool}
use Rattle.chip_numbers.specs.declared.space.Space.{Space}
use Rattle.text_lines.specs.Lines.{last_line, lines_behind, lines_of, without_return}
use Rattle.text_fields.specs.Fields.{cut_at}
use Rattle.assert_check.specs.declared.assertion.Assertion.{Assertion}
use Rattle.assert_check.specs.declared.lines.AssertError.{AssertError}
use Rattle.assert_check.specs.declared.lines.AssertError.TheVariants.{Syntax, Memory}
use Rattle.assert_check.specs.Lines.{Tells, TellsLine, assertion_of, assertions_behind, assertions_of, onto, with_front}

abbrev Parts : Type 0
Parts = List ℕ × List ℕ

-- a line that begins with a byte other than a line feed
longer : (begun : List ℕ) (b : ℕ) (text front behind : List ℕ) (found : Option Parts) → cut_at 10 text ≡ found
    → option_map {U = Parts} (λ (parts : Parts). (b ∷ parts.0, parts.1)) found ≡ Some (front, behind)
    → ((rest behind : List ℕ) → cut_at 10 text ≡ Some (rest, behind)
    → lines_behind (begun ++ b ∷ []) text ≡ without_return ((begun ++ b ∷ []) ++ rest) ∷ lines_behind [] behind)
    → lines_behind (begun ++ b ∷ []) text ≡ without_return (begun ++ front) ∷ lines_behind [] behind
longer begun b text front behind None is e more = absurd (cc)
longer begun b text front behind (Some parts) is e more =
    let pair : (b ∷ parts.0, parts.1) ≡ (front, behind) = cc e in
    let first : b ∷ parts.0 ≡ front = ap (λ (p : Parts). p.0) pair in
    let last : parts.1 ≡ behind = ap (λ (p : Parts). p.1) pair in
    more parts.0 parts.1 is
    ∙ ap (λ l. without_return l ∷ lines_behind [] parts.1) (append_assoc begun (b ∷ []) parts.0 ∙ ap (λ l. begun ++ l) first)
    ∙ ap (λ t. without_return (begun ++ front) ∷ lines_behind [] t) last

-- a text is cut at its first line feed
cut_behind : (text begun front behind : List ℕ) → cut_at 10 text ≡ Some (front, behind)
    → lines_behind begun text ≡ without_return (begun ++ front) ∷ lines_behind [] behind
cut_behind [] begun front behind e = absurd (cc)
cut_behind (b ∷ text) begun front behind e = elim (cases_Bool (b == 10)) [
  | inl feed ↦
      let is : Some ([], text) ≡ Some (front, behind) = rw feed at e in
      let pair : ([], text) ≡ (front, behind) = cc is in
      let first : [] ≡ front = ap (λ (p : Parts). p.0) pair in
      let last : text ≡ behind = ap (λ (p : Parts). p.1) pair in
      rw feed (ap (λ l. without_return l ∷ lines_behind [] text) (sym (append-nil begun) ∙ ap (λ l. begun ++ l) first)
      ∙ ap (λ t. without_return (begun ++ front) ∷ lines_behind [] t) last)
  | inr other ↦ rw other (longer begun b text front behind (cut_at 10 text) refl (rw other at e) (λ rest left is. cut_behind text (begun ++ b ∷ []) rest left is))
]

pub cut_line : (text front behind : List ℕ) → cut_at 10 text ≡ Some (front, behind) → lines_of text ≡ without_return front ∷ lines_of behind
cut_line text front behind e = cut_behind text [] front behind e

no_part : (b : ℕ) (found : Option Parts) → option_map {U = Parts} (λ (parts : Parts). (b ∷ parts.0, parts.1)) found ≡ None → found ≡ None
no_part b None e = refl
no_part b (Some parts) e = absurd (cc)

uncut_behind : (text begun : List ℕ) → cut_at 10 text ≡ None → lines_behind begun text ≡ last_line (begun ++ text)
uncut_behind [] begun e = ap last_line (sym (append-nil begun))
uncut_behind (b ∷ text) begun e = elim (cases_Bool (b == 10)) [
  | inl feed ↦ absurd (cc (rw feed at e))
  | inr other ↦ rw other (uncut_behind text (begun ++ b ∷ []) (no_part b (cut_at 10 text) (rw other at e)) ∙ ap last_line (append_assoc begun (b ∷ []) text))
]

-- where there is none, the text is its last line
pub last_cut : (spaces : List Space) (count : ℕ) (rest : List ℕ) → cut_at 10 rest ≡ None
    → assertions_behind spaces count (lines_of rest) ≡ assertions_behind spaces count (without_return rest ∷ [])
last_cut spaces count [] e = refl
last_cut spaces count (b ∷ rest) e = ap (assertions_behind spaces count) (uncut_behind (b ∷ rest) [] e)

-- what the rest of a text gives, by its next line, and by its last one
module _ (spaces : List Space) (list : List (ℕ × Assertion)) (count : ℕ) (rest : List ℕ) (whole : Result (List (ℕ × Assertion)) ℕ)
    (is : with_front list (assertions_behind spaces count (lines_of rest)) ≡ whole) where
  pub by_next : (line behind : List ℕ) → cut_at 10 rest ≡ Some (line, behind)
      → with_front list (assertions_behind spaces count (without_return line ∷ lines_of behind)) ≡ whole
  by_next line behind e = ap (λ lines. with_front list (assertions_behind spaces count lines)) (sym (cut_line rest line behind e)) ∙ is

  pub by_last : cut_at 10 rest ≡ None → with_front list (assertions_behind spaces count (without_return rest ∷ [])) ≡ whole
  by_last e = ap (with_front list) (sym (last_cut spaces count rest e)) ∙ is

-- one more assertion
onto_front : (list : List (ℕ × Assertion)) (number : ℕ) (assertion : Assertion) (others : Result (List (ℕ × Assertion)) ℕ)
    → with_front list (onto number (Some assertion) others) ≡ with_front (list ++ (number, assertion) ∷ []) others
onto_front list number assertion (Ok more) = ap Ok (sym (append_assoc list ((number, assertion) ∷ []) more))
onto_front list number assertion (Err line) = refl

pub one_more : (spaces : List Space) (list new : List (ℕ × Assertion)) (count : ℕ) (line : List ℕ) (assertion : Assertion)
    → (length line == 0) ≡ false → Some assertion ≡ assertion_of spaces line → new ≡ list ++ (count + 1, assertion) ∷ []
    → (lines : List (List ℕ))
    → with_front list (assertions_behind spaces count (line ∷ lines)) ≡ with_front new (assertions_behind spaces (count + 1) lines)
one_more spaces list new count [] assertion some is more lines = absurd (cc)
one_more spaces list new count (b ∷ bytes) assertion some is more lines = rw (more, add-one)
    (ap (λ a. with_front list (onto (suc count) a (assertions_behind spaces (suc count) lines))) (sym is)
    ∙ onto_front list (suc count) assertion (assertions_behind spaces (suc count) lines))

-- what an error tells of the next line is told of the text
pub tells_text : (spaces : List Space) (text line : List ℕ) (list : List (ℕ × Assertion)) (count : ℕ) (lines : List (List ℕ)) (error : AssertError)
    → with_front list (assertions_behind spaces count (line ∷ lines)) ≡ assertions_of spaces text
    → TellsLine spaces count line error → Tells spaces text error
tells_text spaces text line list count lines (Syntax refused) whole tells = sym whole ∙ ap (with_front list) (tells lines)
tells_text spaces text line list count lines Memory whole tells = tt
