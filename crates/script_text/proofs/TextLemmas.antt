-- A text by its whole lines and the line that has begun, and one that goes on.
use Rattle.std.proofs.Common.{◌≡◌, ℕ, suc, take, drop, get_or, subst, ◌+◌, ◌<◌, ◌≤◌, refl, sym, ap, ◌∙◌, arith, append_assoc, length-append, true, false, inl, inr, List, [], ◌∷◌, ◌++◌, length, map, Ok, Err}
use Rattle.std.specs.Prelude.{◌==◌}
use Rattle.std.proofs.lemmas.List.{append-nil, map-append, length-map, take-append-drop}
use Rattle.std.proofs.Math.Seq.{take-suc}
use Rattle.std.proofs.lemmas.List.Sums.{sum_by-append}
use Rattle.text_lines.specs.Lines.{feeds_of, without_return, last_line, lines_behind, lines_of}
use Rattle.script_text.specs.declared.fault.ScriptError.{ScriptError}
use Rattle.script_text.specs.declared.fault.ScriptError.TheVariants.{Syntax, Memory}
use Rattle.script_text.specs.Script.{is_number, number_of, numbers_behind, numbers_of, script_of}
use Rattle.script_text.specs.Reading.{IsRefusedWithin, TellsFront, TellsWhole, TellsLine, joined, HasRead}
use Rattle.std.proofs.lemmas.Bool.{cases_Bool}
use Rattle.script_text.proofs.ScriptLemmas.{behind_more, refused_above}

pub joined_more : (whole : List (List ℕ)) (begun more : List ℕ) → joined whole (begun ++ more) ≡ joined whole begun ++ more
joined_more [] begun more = refl
joined_more (line ∷ whole) begun more =
    rw (joined_more whole begun more) (sym (append_assoc line (10 ∷ joined whole begun) more))

pub joined_feed : (whole : List (List ℕ)) (begun : List ℕ) → joined (whole ++ begun ∷ []) [] ≡ joined whole begun ++ 10 ∷ []
joined_feed [] begun = refl
joined_feed (line ∷ whole) begun = rw (joined_feed whole begun) (sym (append_assoc line (10 ∷ joined whole begun) (10 ∷ [])))

pub feeds_append : (text more : List ℕ) → feeds_of (text ++ more) ≡ feeds_of text + feeds_of more
feeds_append text more = sum_by-append _ text more

behind_byte : (begun more : List ℕ) (b : ℕ) → (b == 10) ≡ false → lines_behind begun (b ∷ more) ≡ lines_behind (begun ++ b ∷ []) more
behind_byte begun more b other = rw other refl

feeds_byte : (b : ℕ) → (b == 10) ≡ false → feeds_of (b ∷ []) ≡ 0
feeds_byte b other = rw other refl

-- a byte of the line
pub read_byte : (whole : List (List ℕ)) (begun numbers : List ℕ) (b : ℕ) → HasRead whole begun numbers → (b == 10) ≡ false →
    length (joined whole begun) < 268435456 → HasRead whole (begun ++ b ∷ []) numbers
read_byte whole begun numbers b read other room =
    let text = joined_more whole begun (b ∷ []) in
    record {
      cut = λ more. rw text (ap lines_of (append_assoc (joined whole begun) (b ∷ []) more) ∙ read.cut (b ∷ more)
          ∙ ap (λ lines. map without_return whole ++ lines) (behind_byte begun more b other));
      denotes = read.denotes;
      feeds = rw text (omega (arith, feeds_append (joined whole begun) (b ∷ []), feeds_byte b other, read.feeds));
      small = rw text (omega (arith, length-append (joined whole begun) (b ∷ [])));
    }

-- what is told of a line behind the whole ones, and of further lines
abbrev pub Takes : ℕ → List ℕ → List ℕ → List ℕ → Type 0
Takes count numbers line got = (lines : List (List ℕ)) → numbers_behind count numbers (line ∷ lines) ≡ numbers_behind (suc count) got lines

-- the lines behind the whole ones
behind_whole : (whole lines : List (List ℕ)) (begun numbers : List ℕ) → HasRead whole begun numbers →
    numbers_of (map without_return whole ++ lines) ≡ numbers_behind (length whole) numbers lines
behind_whole whole lines begun numbers read =
    behind_more (map without_return whole) lines 0 (length whole) [] numbers read.denotes (omega (arith, length-map whole without_return))

-- the line feed behind the line
pub read_feed : (whole : List (List ℕ)) (begun numbers got : List ℕ) → HasRead whole begun numbers
    → Takes (length whole) numbers (without_return begun) got →
    length (joined whole begun) < 268435456 → HasRead (whole ++ begun ∷ []) [] got
read_feed whole begun numbers got read takes room =
    let text = joined_feed whole begun in
    let lines : map without_return (whole ++ begun ∷ []) ≡ map without_return whole ++ without_return begun ∷ [] = map-append _ whole (begun ∷ []) in
    record {
      cut = λ more. rw (text, lines) (ap lines_of (append_assoc (joined whole begun) (10 ∷ []) more) ∙ read.cut (10 ∷ more)
          ∙ sym (append_assoc (map without_return whole) (without_return begun ∷ []) (lines_behind [] more)));
      denotes = rw lines (behind_whole whole (without_return begun ∷ []) begun numbers read ∙ takes []);
      feeds = rw text (omega (arith, feeds_append (joined whole begun) (10 ∷ []), read.feeds, length-append whole (begun ∷ [])));
      small = rw text (omega (arith, length-append (joined whole begun) (10 ∷ [])));
    }

-- the line is refused with its line feed
pub feed_refused : (whole : List (List ℕ)) (begun numbers : List ℕ) (k : ℕ) → HasRead whole begun numbers → k ≡ length whole + 1 →
    ((lines : List (List ℕ)) → numbers_behind (length whole) numbers (without_return begun ∷ lines) ≡ Err k) →
    IsRefusedWithin (joined whole begun ++ 10 ∷ []) k
feed_refused whole begun numbers k read is refused = (
  ap numbers_of (read.cut (10 ∷ [])) ∙ behind_whole whole (without_return begun ∷ []) begun numbers read ∙ refused [],
  omega (arith, feeds_append (joined whole begun) (10 ∷ []), read.feeds),
)

-- the text as it stands
as_it_stands : (whole : List (List ℕ)) (begun numbers : List ℕ) → HasRead whole begun numbers →
    script_of (joined whole begun) ≡ numbers_behind (length whole) numbers (last_line begun)
as_it_stands whole begun numbers read =
    ap script_of (sym (append-nil (joined whole begun))) ∙ ap numbers_of (read.cut []) ∙ behind_whole whole (last_line begun) begun numbers read

pub none_refused : (whole : List (List ℕ)) (begun numbers : List ℕ) (k : ℕ) → HasRead whole begun numbers
    → IsRefusedWithin (joined whole begun) k → ⊥
none_refused whole begun numbers k read refused =
    let above = refused_above (last_line begun) (length whole) k numbers (sym (as_it_stands whole begun numbers read) ∙ refused.0) in
    omega (arith, refused.1, read.feeds)

pub end_feed : (whole : List (List ℕ)) (begun numbers : List ℕ) → HasRead whole begun numbers → length begun ≡ 0
    → script_of (joined whole begun) ≡ Ok numbers
end_feed whole [] numbers read empty = as_it_stands whole [] numbers read
end_feed whole (b ∷ begun) numbers read empty = absurd (omega arith)

pub end_line : (whole : List (List ℕ)) (begun numbers : List ℕ) → HasRead whole begun numbers → 0 < length begun →
    script_of (joined whole begun) ≡ numbers_behind (length whole) numbers (without_return begun ∷ [])
end_line whole [] numbers read some = absurd (omega arith)
end_line whole (b ∷ begun) numbers read some = as_it_stands whole (b ∷ begun) numbers read

feeds_more : (b : ℕ) (text : List ℕ) → feeds_of (b ∷ text) ≡ feeds_of (b ∷ []) + feeds_of text
feeds_more b text = feeds_append (b ∷ []) text

feeds_one : (b : ℕ) → (b == 10) ≡ true → feeds_of (b ∷ []) ≡ 1
feeds_one b feed = rw feed refl

-- a line that is refused, or one behind it, where it is so behind other lines
line_stays : (line : List ℕ) (these those : List (List ℕ)) (numbers : List ℕ) (count k : ℕ)
    → numbers_behind count numbers (line ∷ these) ≡ Err k →
    ((got : List ℕ) → numbers_behind (suc count) got these ≡ Err k → numbers_behind (suc count) got those ≡ Err k) →
    numbers_behind count numbers (line ∷ those) ≡ Err k
line_stays [] these those numbers count k e next = next numbers e
line_stays (b ∷ bytes) these those numbers count k e next = elim (cases_Bool (is_number (b ∷ bytes))) [
  | inl number ↦ rw number (next (numbers ++ number_of (b ∷ bytes) ∷ []) (rw number at e))
  | inr other ↦ rw other (rw other at e)
]

-- what is refused within a front is refused within the whole
front_refused : (text more begun numbers : List ℕ) (count k : ℕ) → numbers_behind count numbers (lines_behind begun text) ≡ Err k →
    k ≤ count + feeds_of text → numbers_behind count numbers (lines_behind begun (text ++ more)) ≡ Err k
front_refused [] more begun numbers count k e h = absurd (omega (arith, refused_above (last_line begun) count k numbers e))
front_refused (b ∷ text) more begun numbers count k e h = elim (cases_Bool (b == 10)) [
  | inl feed ↦
      (let few : k ≤ suc count + feeds_of text = omega (arith, feeds_more b text, feeds_one b feed) in
      rw feed (line_stays (without_return begun) (lines_behind [] text) (lines_behind [] (text ++ more)) numbers count k (rw feed at e)
      (λ got f. front_refused text more [] got (suc count) k f few)))
  | inr other ↦
      (let few : k ≤ count + feeds_of text = omega (arith, feeds_more b text, feeds_byte b other) in
      rw other (front_refused text more (begun ++ b ∷ []) numbers count k (rw other at e) few))
]

pub refusal_stays : (text more : List ℕ) (k : ℕ) → IsRefusedWithin text k → IsRefusedWithin (text ++ more) k
refusal_stays text more k refused =
    (front_refused text more [] [] 0 k refused.0 (omega (arith, refused.1)), omega (arith, refused.1, feeds_append text more))

pub count_lines : {A : Type 0} (line_of : A → List ℕ) (items : List A) (n size : ℕ) → n ≡ size → size ≡ length items
    → n ≡ length (map line_of items)
count_lines line_of items n size count is = count ∙ is ∙ sym (length-map items line_of)

-- what the next line's error tells of the text with its line feed
pub tells_feed : (whole : List (List ℕ)) (begun numbers : List ℕ) (count : ℕ) (error : ScriptError)
    → HasRead whole begun numbers → count ≡ length whole →
    TellsLine count numbers (without_return begun) error → TellsFront (joined whole begun ++ 10 ∷ []) error
tells_feed whole begun numbers count (Syntax k) read is tells =
    feed_refused whole begun numbers k read (omega (arith, tells.0)) (λ lines. rw is at (tells.1 lines))
tells_feed whole begun numbers count Memory read is tells = tt

-- and without one, at the end
pub tells_end : (whole : List (List ℕ)) (begun numbers : List ℕ) (count : ℕ) (error : ScriptError)
    → HasRead whole begun numbers → 0 < length begun →
    count ≡ length whole → TellsLine count numbers (without_return begun) error → TellsWhole (joined whole begun) error
tells_end whole begun numbers count (Syntax k) read some is tells =
    end_line whole begun numbers read some ∙ rw is at (tells.1 [])
tells_end whole begun numbers count Memory read some is tells = tt

-- an error of a front, and of more
pub tells_more : (text more : List ℕ) (error : ScriptError) → TellsFront text error → TellsFront (text ++ more) error
tells_more text more (Syntax k) tells = refusal_stays text more k tells
tells_more text more Memory tells = tt

-- a further byte of a piece
pub piece_step : (text piece : List ℕ) (i : ℕ) → i < length piece
    → (text ++ take i piece) ++ get_or piece i 0 ∷ [] ≡ text ++ take (i + 1) piece
piece_step text piece i h =
    let next : i + 1 ≡ suc i = omega arith in
    rw next (append_assoc text (take i piece) (get_or piece i 0 ∷ []) ∙ ap (λ t. text ++ t) (sym (take-suc piece i 0 h)))

-- what is told at a byte of a piece is told of the piece
pub tells_piece : (text piece : List ℕ) (i : ℕ) (error : ScriptError) → i < length piece →
    TellsFront ((text ++ take i piece) ++ get_or piece i 0 ∷ []) error → TellsFront (text ++ piece) error
tells_piece text piece i error h tells =
    let whole : (text ++ take (i + 1) piece) ++ drop (i + 1) piece ≡ text ++ piece =
    append_assoc text (take (i + 1) piece) (drop (i + 1) piece) ∙ ap (λ t. text ++ t) (take-append-drop (i + 1) piece) in
    subst (λ t. TellsFront t error) whole
    (tells_more (text ++ take (i + 1) piece) (drop (i + 1) piece) error (rw (piece_step text piece i h) at tells))
