-- What the front of a text tells of the text that goes on.
use Rattle.std.proofs.Common.{◌≡◌, ℕ, ◌<◌, ◌≤◌, List, [], ◌∷◌, ◌++◌, length, refl, sym, ◌∙◌, ap, subst, append_assoc, length-append, arith}
use Rattle.std.specs.Prelude.{map}
use Rattle.std.proofs.lemmas.List.{length-map}
use Rattle.image.specs.declared.rule_set.Rules.{Rules}
use Rattle.image.specs.declared.tail.Tail.{Tail}
use Rattle.image.specs.declared.tail.Tail.TheVariants.{Second}
use Rattle.ihex_read.specs.declared.fault.HexFault.{HexFault}
use Rattle.ihex_read.specs.declared.fault.HexError.{HexError}
use Rattle.ihex_read.specs.declared.fault.HexError.TheVariants.{Bad, Memory}
use Rattle.ihex_read.specs.ImageText.{Ends, FirstFault, of_line, no_end, trailing}
use Rattle.text_lines.specs.Lines.{feeds_of, without_return, last_line, lines_behind, lines_of}
use Rattle.ihex_read.specs.Reading.{HasEnded, FaultsWithin, TellsFront}
use Rattle.ihex_read.proofs.PieceLemmas.{pieces_of, lines_of-joined, lines_of-joined_end, feeds_of-joined, feeds_of-joined_end}
use Rattle.ihex_read.proofs.TextLemmas.{no_end_behind_fault, no_end_among_open}

-- a line of the front cuts the front
pub front_cut : (front more before : List (List ℕ)) (line : List ℕ) (behind : List (List ℕ)) → front ++ more ≡ before ++ line ∷ behind
    → length before < length front → (rest : List (List ℕ)) × (front ≡ before ++ line ∷ rest) × (behind ≡ rest ++ more)
front_cut [] more before line behind e h = absurd (omega arith)
front_cut (x ∷ front) more [] line behind e h = (front, cc e, cc e)
front_cut (x ∷ front) more (y ∷ before) line behind e h =
    let heads : x ≡ y = cc e in
    let tails : front ++ more ≡ before ++ line ∷ behind = cc e in
    let rest = front_cut front more before line behind tails (omega arith) in
    (rest.0, cc (heads, rest.1), rest.2)

-- what stands in place of what was behind the front
other_end : (front before : List (List ℕ)) (line : List ℕ) (rest more : List (List ℕ)) → front ≡ before ++ line ∷ rest
    → front ++ more ≡ before ++ line ∷ (rest ++ more)
other_end front before line rest more e = ap (λ lines. lines ++ more) e ∙ append_assoc before (line ∷ rest) more

-- an end record's line in the front
pub ends_more : (rules : Rules) (front more other before : List (List ℕ)) (line : List ℕ) (behind : List (List ℕ))
    → Ends rules (front ++ more) before line behind
    → length before < length front → (rest : List (List ℕ)) × Ends rules (front ++ other) before line rest
ends_more rules front more other before line behind ends h =
    let cut = front_cut front more before line behind ends.whole h in
    (cut.0 ++ other, record { whole = other_end front before line cut.0 other cut.1; open_before = ends.open_before; accepted = ends.accepted; ends = ends.ends })

-- a first fault in the front
pub first_fault_more : (rules : Rules) (tail : Tail) (front more other : List (List ℕ)) {line : ℕ} {fault : HexFault}
    → FirstFault rules tail (front ++ more) line fault
    → line ≤ length front → FirstFault rules tail (front ++ other) line fault
first_fault_more rules tail front more other (of_line before line behind fault whole all_open faulty) h =
    let cut = front_cut front more before line behind whole (omega arith) in
    of_line before line (cut.0 ++ other) fault (other_end front before line cut.0 other cut.1) all_open faulty
first_fault_more rules tail front more other (no_end all_open) h = absurd (omega (arith, length-append front more))
first_fault_more rules tail front more other (trailing before line blank bad behind ends blank_lines bad_there blank_tail) h =
    let lines : front ++ more ≡ (before ++ line ∷ blank) ++ bad ∷ behind = ends.whole ∙ sym (append_assoc before (line ∷ blank) (bad ∷ behind)) in
    let size : length (before ++ line ∷ blank) < length front = omega (arith, length-append before (line ∷ blank)) in
    let cut = front_cut front more (before ++ line ∷ blank) bad behind lines size in
    let whole = other_end front (before ++ line ∷ blank) bad cut.0 other cut.1 ∙ append_assoc before (line ∷ blank) (bad ∷ (cut.0 ++ other)) in
    trailing before line blank bad (cut.0 ++ other) (record { whole = whole; open_before = ends.open_before; accepted = ends.accepted; ends = ends.ends })
    blank_lines bad_there blank_tail

-- a text and one that goes on have its whole lines in common
record Fronts (text more : List ℕ) : Type 0 where
  front : List (List ℕ)
  last : List (List ℕ)
  further : List (List ℕ)
  size : length front ≡ feeds_of text
  lines : lines_of text ≡ front ++ last
  more_lines : lines_of (text ++ more) ≡ front ++ further
  more_feeds : feeds_of text ≤ feeds_of (text ++ more)

fronts_of : (text more : List ℕ) → Fronts text more
fronts_of text more = let pieces = pieces_of text in
    record {
      front = map without_return pieces.whole;
      last = last_line pieces.begun;
      further = lines_behind pieces.begun more;
      size = length-map pieces.whole without_return ∙ sym (feeds_of-joined_end pieces.whole pieces.begun pieces.cut) ∙ ap feeds_of (sym pieces.is);
      lines = ap lines_of pieces.is ∙ lines_of-joined_end pieces.whole pieces.begun pieces.cut;
      more_lines = ap (λ t. lines_of (t ++ more)) pieces.is ∙ lines_of-joined pieces.whole pieces.begun more pieces.cut;
      more_feeds = omega (
        arith,
        ap feeds_of pieces.is,
        ap (λ t. feeds_of (t ++ more)) pieces.is,
        feeds_of-joined pieces.whole pieces.begun more pieces.cut,
        feeds_of-joined_end pieces.whole pieces.begun pieces.cut,
      );
    }

pub end_stays : (rules : Rules) (text more : List ℕ) → (ended : HasEnded rules text)
    → (rest : List (List ℕ)) × Ends rules (lines_of (text ++ more)) ended.0 ended.1 rest
end_stays rules text more ended =
    let fronts = fronts_of text more in
    let ends = subst (λ lines. Ends rules lines ended.0 ended.1 ended.2) fronts.lines ended.3 in
    let rest = ends_more rules fronts.front fronts.last fronts.further ended.0 ended.1 ended.2 ends (omega (arith, fronts.size, ended.4)) in
    (rest.0, subst (λ lines. Ends rules lines ended.0 ended.1 rest.0) (sym fronts.more_lines) rest.1)

pub has_ended_more : (rules : Rules) (text more : List ℕ) → HasEnded rules text → HasEnded rules (text ++ more)
has_ended_more rules text more ended =
    let rest = end_stays rules text more ended in
    let fronts = fronts_of text more in
    (ended.0, ended.1, rest.0, rest.1, omega (arith, fronts.more_feeds, ended.4))

pub faults_within_more : (rules : Rules) (tail : Tail) (text more : List ℕ) (line : ℕ) (fault : HexFault)
    → FaultsWithin rules tail text line fault
    → FaultsWithin rules tail (text ++ more) line fault
faults_within_more rules tail text more line fault faults =
    let fronts = fronts_of text more in
    let first = subst (λ lines. FirstFault rules tail lines line fault) fronts.lines faults.0 in
    let further = first_fault_more rules tail fronts.front fronts.last fronts.further first (omega (arith, fronts.size, faults.1)) in
    (subst (λ lines. FirstFault rules tail lines line fault) (sym fronts.more_lines) further, omega (arith, fronts.more_feeds, faults.1))

pub tells_more : (rules : Rules) (tail : Tail) (text more : List ℕ) (error : HexError)
    → TellsFront rules tail text error → TellsFront rules tail (text ++ more) error
tells_more rules tail text more (Bad line fault) tells = faults_within_more rules tail text more line fault tells
tells_more rules tail text more Memory tells = tt

no_fault_behind : (rules : Rules) (tail : Tail) (lines before : List (List ℕ)) (line : List ℕ) (behind : List (List ℕ)) {number : ℕ} {fault : HexFault}
    → Ends rules lines before line behind → tail ≡ Second → FirstFault rules tail lines number fault → ⊥
no_fault_behind rules tail lines before line behind ends second (of_line b l r fault whole all_open faulty) =
    no_end_behind_fault rules lines b before l line r behind fault whole all_open (sym faulty) ends
no_fault_behind rules tail lines before line behind ends second (no_end all_open) = no_end_among_open rules lines before line behind all_open ends
no_fault_behind rules tail lines before line behind ends second (trailing b l blank bad r e blank_lines bad_there blank_tail) = cc (second, blank_tail)

-- with a second text behind it, a text that has ended has no fault
pub none_behind_end : (rules : Rules) (tail : Tail) (text more : List ℕ) (line : ℕ) (fault : HexFault) → tail ≡ Second → HasEnded rules text
    → FaultsWithin rules tail (text ++ more) line fault → ⊥
none_behind_end rules tail text more line fault second ended faults =
    let rest = end_stays rules text more ended in
    no_fault_behind rules tail (lines_of (text ++ more)) ended.0 ended.1 rest.0 rest.1 second faults.0

pub faultless_end : (rules : Rules) (text : List ℕ) (line : ℕ) (fault : HexFault) → HasEnded rules text
    → FirstFault rules Second (lines_of text) line fault → ⊥
faultless_end rules text line fault ended = no_fault_behind rules Second (lines_of text) ended.0 ended.1 ended.2 ended.3 refl
