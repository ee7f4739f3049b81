-- The lines of a text, each with its line feed, and a machine that reads line by line.
use Rattle.std.specs.Prelude.{◌≡◌, ℕ, suc, ◌+◌, ◌==◌, if◌then◌else◌, true, false, Result, Ok, Err, List, [], ◌∷◌, ◌++◌, length}
use Rattle.std.specs.List.{AllByRecursion}
use Rattle.std.proofs.Common.{refl, sym, ap, ap₂, ◌∙◌, subst, inl, inr, arith, append_assoc}
use Rattle.std.proofs.lemmas.Bool.{cases_Bool, false≢true, eqb-true}
use Rattle.text_fields.specs.Spelling.{has_byte}

-- LINES

-- whole lines, each with its line feed, and the rest behind them
abbrev pub joined : List (List ℕ) → List ℕ → List ℕ
joined [] rest = rest
joined (line ∷ lines) rest = line ++ 10 ∷ joined lines rest

-- a byte in front of the first line, or of the rest
abbrev pub onto_lines : ℕ → List (List ℕ) → List ℕ → List (List ℕ) × List ℕ
onto_lines b [] rest = ([], b ∷ rest)
onto_lines b (line ∷ lines) rest = ((b ∷ line) ∷ lines, rest)

-- the whole lines of a text, without their line feeds, and the rest
abbrev pub lines_cut : List ℕ → List (List ℕ) × List ℕ
lines_cut [] = ([], [])
lines_cut (b ∷ text) = if b == 10 then ([] ∷ (lines_cut text).0, (lines_cut text).1) else onto_lines b (lines_cut text).0 (lines_cut text).1

abbrev pub whole_lines : List ℕ → List (List ℕ)
whole_lines text = (lines_cut text).0

abbrev pub rest_of : List ℕ → List ℕ
rest_of text = (lines_cut text).1

abbrev pub IsOneLine : List ℕ → Type 0
IsOneLine line = has_byte 10 line ≡ false

-- A MACHINE

-- what follows from a state, or the number of the line at fault, which stands behind so many
abbrev pub counted : {S F B : Type 0} → (count : ℕ) → (S → Result B (ℕ × F)) → Result S F → Result B (ℕ × F)
counted count go (Ok state) = go state
counted count go (Err fault) = Err (suc count, fault)

-- the state behind lines that stand behind so many others, or the first line at fault
abbrev pub reading : {S F : Type 0} → (step : S → List ℕ → Result S F) → (count : ℕ) → S → List (List ℕ) → Result S (ℕ × F)
reading step count state [] = Ok state
reading step count state (line ∷ lines) = counted count (λ next. reading step (suc count) next lines) (step state line)

abbrev pub read_on : {S F : Type 0} → (step : S → List ℕ → Result S F) → (count : ℕ) → List (List ℕ) → Result S (ℕ × F) → Result S (ℕ × F)
read_on step count lines (Ok state) = reading step count state lines
read_on step count lines (Err fault) = Err fault

-- LAWS

onto_joined : (b : ℕ) (lines : List (List ℕ)) (rest : List ℕ)
    → joined (onto_lines b lines rest).0 (onto_lines b lines rest).1 ≡ b ∷ joined lines rest
onto_joined b [] rest = refl
onto_joined b (line ∷ lines) rest = refl

feed_cut : (b : ℕ) (text : List ℕ) → (b == 10) ≡ true → lines_cut (b ∷ text) ≡ ([] ∷ whole_lines text, rest_of text)
feed_cut b text feed = rw feed refl

byte_cut : (b : ℕ) (text : List ℕ) → (b == 10) ≡ false → lines_cut (b ∷ text) ≡ onto_lines b (whole_lines text) (rest_of text)
byte_cut b text other = rw other refl

-- no byte is lost
pub joined-lines_cut : (text : List ℕ) → joined (whole_lines text) (rest_of text) ≡ text
joined-lines_cut [] = refl
joined-lines_cut (b ∷ text) = elim (cases_Bool (b == 10)) [
  | inl feed ↦ ap (λ (cut : List (List ℕ) × List ℕ). joined cut.0 cut.1) (feed_cut b text feed)
      ∙ ap₂ (λ (c : ℕ) (t : List ℕ). c ∷ t) (sym (eqb-true b 10 feed)) (joined-lines_cut text)
  | inr other ↦
      ap (λ (cut : List (List ℕ) × List ℕ). joined cut.0 cut.1) (byte_cut b text other)
      ∙ onto_joined b (whole_lines text) (rest_of text) ∙ ap (λ (t : List ℕ). b ∷ t) (joined-lines_cut text)
]

onto_one : (b : ℕ) (lines : List (List ℕ)) (rest : List ℕ) → (b == 10) ≡ false → AllByRecursion IsOneLine lines → IsOneLine rest
    → AllByRecursion IsOneLine (onto_lines b lines rest).0 × IsOneLine (onto_lines b lines rest).1
onto_one b [] rest other lines_are rest_is = (tt, rw other rest_is)
onto_one b (line ∷ lines) rest other lines_are rest_is = ((rw other lines_are.0, lines_are.1), rest_is)

abbrev AreOneLine : List (List ℕ) × List ℕ → Type 0
AreOneLine cut = AllByRecursion IsOneLine cut.0 × IsOneLine cut.1

-- no line has a line feed, nor has the rest
pub lines_cut-one : (text : List ℕ) → AllByRecursion IsOneLine (whole_lines text) × IsOneLine (rest_of text)
lines_cut-one [] = (tt, refl)
lines_cut-one (b ∷ text) = let before = lines_cut-one text in elim (cases_Bool (b == 10)) [
  | inl feed ↦ subst AreOneLine (sym (feed_cut b text feed)) ((refl, before.0), before.1)
  | inr other ↦ subst AreOneLine (sym (byte_cut b text other)) (onto_one b (whole_lines text) (rest_of text) other before.0 before.1)
]

line_cut : (line text : List ℕ) → IsOneLine line → lines_cut (line ++ 10 ∷ text) ≡ (line ∷ whole_lines text, rest_of text)
line_cut [] text one = refl
line_cut (b ∷ line) text one = elim (cases_Bool (b == 10)) [
  | inl feed ↦ absurd (false≢true (sym one ∙ rw feed refl))
  | inr other ↦ rw (other, line_cut line text (rw other at one)) refl
]

rest_cut : (rest : List ℕ) → IsOneLine rest → lines_cut rest ≡ ([], rest)
rest_cut [] one = refl
rest_cut (b ∷ rest) one = elim (cases_Bool (b == 10)) [
  | inl feed ↦ absurd (false≢true (sym one ∙ rw feed refl))
  | inr other ↦ rw (other, rest_cut rest (rw other at one)) refl
]

-- lines and a rest are cut again as they were
pub lines_cut-joined : (lines : List (List ℕ)) (rest : List ℕ) → AllByRecursion IsOneLine lines → IsOneLine rest
    → lines_cut (joined lines rest) ≡ (lines, rest)
lines_cut-joined [] rest are is = rest_cut rest is
lines_cut-joined (line ∷ lines) rest are is =
    line_cut line (joined lines rest) are.0
    ∙ ap (λ (cut : List (List ℕ) × List ℕ). (line ∷ cut.0, cut.1)) (lines_cut-joined lines rest are.1 is)

-- one more line
pub joined-line : (lines : List (List ℕ)) (line rest : List ℕ) → joined (lines ++ line ∷ []) rest ≡ joined lines (line ++ 10 ∷ rest)
joined-line [] line rest = refl
joined-line (first ∷ lines) line rest = ap (λ (t : List ℕ). first ++ 10 ∷ t) (joined-line lines line rest)

-- more bytes of the rest
pub joined-rest : (lines : List (List ℕ)) (rest more : List ℕ) → joined lines rest ++ more ≡ joined lines (rest ++ more)
joined-rest [] rest more = refl
joined-rest (line ∷ lines) rest more =
    append_assoc line (10 ∷ joined lines rest) more ∙ ap (λ (t : List ℕ). line ++ 10 ∷ t) (joined-rest lines rest more)

-- lines behind lines
joined-both : (front lines : List (List ℕ)) (rest : List ℕ) → joined (front ++ lines) rest ≡ joined front (joined lines rest)
joined-both [] lines rest = refl
joined-both (line ∷ front) lines rest = ap (λ (t : List ℕ). line ++ 10 ∷ t) (joined-both front lines rest)

both_one : (front lines : List (List ℕ)) → AllByRecursion IsOneLine front → AllByRecursion IsOneLine lines
    → AllByRecursion IsOneLine (front ++ lines)
both_one [] lines are more = more
both_one (line ∷ front) lines are more = (are.0, both_one front lines are.1 more)

appended : {S F : Type 0} (step : S → List ℕ → Result S F) (count : ℕ) (front lines : List (List ℕ)) (first : Result S F)
    → ((state : S) → reading step (suc count) state (front ++ lines) ≡ read_on step (suc count + length front) lines (reading step (suc count) state front))
    → counted count (λ next. reading step (suc count) next (front ++ lines)) first
    ≡ read_on step (suc count + length front) lines (counted count (λ next. reading step (suc count) next front) first)
appended step count front lines (Ok state) rest = rest state
appended step count front lines (Err fault) rest = refl

-- lines behind others: the machine goes on, or stays at the first fault
pub reading-append : {S F : Type 0} (step : S → List ℕ → Result S F) (count : ℕ) (state : S) (front lines : List (List ℕ))
    → reading step count state (front ++ lines) ≡ read_on step (count + length front) lines (reading step count state front)
reading-append step count state [] lines = let none : count + 0 ≡ count = omega arith in rw none refl
reading-append step count state (line ∷ front) lines =
    let same : suc count + length front ≡ count + suc (length front) = omega arith in
    appended step count front lines (step state line) (λ next. reading-append step (suc count) next front lines)
    ∙ ap (λ n. read_on step n lines (reading step count state (line ∷ front))) same

-- the whole lines of a text are those of any longer one, with some behind them
pub lines_cut-more : (text more : List ℕ) → (lines : List (List ℕ)) × (whole_lines (text ++ more) ≡ whole_lines text ++ lines)
lines_cut-more text more =
    let parts = lines_cut-one text in
    let behind = lines_cut-one (rest_of text ++ more) in
    let again : joined (whole_lines text ++ whole_lines (rest_of text ++ more)) (rest_of (rest_of text ++ more)) ≡ text ++ more =
    joined-both (whole_lines text) (whole_lines (rest_of text ++ more)) (rest_of (rest_of text ++ more))
    ∙ ap (joined (whole_lines text)) (joined-lines_cut (rest_of text ++ more))
    ∙ sym (joined-rest (whole_lines text) (rest_of text) more) ∙ ap (λ (t : List ℕ). t ++ more) (joined-lines_cut text) in (
      whole_lines (rest_of text ++ more),
      ap whole_lines (sym again) ∙ ap (λ (cut : List (List ℕ) × List ℕ). cut.0)
          (lines_cut-joined (whole_lines text ++ whole_lines (rest_of text ++ more)) (rest_of (rest_of text ++ more))
          (both_one (whole_lines text) (whole_lines (rest_of text ++ more)) parts.0 behind.0) behind.1),
    )
