-- What was read of an input, and what it tells of the whole.
use Rattle.std.proofs.Common.{◌≡◌, ℕ, ◌+◌, ◌-◌, ◌<◌, ◌≤◌, List, ◌++◌, Option, None, Some, length, take, drop, length-append, length-drop, [], refl, sym, ◌∙◌, ap, subst, append_assoc, inl, inr, arith}
use Rattle.std.specs.Prelude.{IfSome, IfErr, IsErrAnd, Result, Ok, Err, min}
use Rattle.std.proofs.lemmas.List.{drop-take, take-append-drop, take-append-le, take_all, length-take, append-nil}
use Rattle.std.proofs.Math.Seq.{take-append-add}
use Rattle.image.specs.declared.rule_set.Rules.{Rules}
use Rattle.image.specs.declared.tail.Tail.{Tail}
use Rattle.image.specs.declared.tail.Tail.TheVariants.{Blank, Second}
use Rattle.ihex_read.specs.declared.fault.HexFault.{HexFault}
use Rattle.ihex_read.specs.declared.fault.HexError.{HexError}
use Rattle.ihex_read.specs.declared.fault.HexError.TheVariants.{Bad, Memory}
use Rattle.ihex_read.specs.ImageText.{Denotes, FirstFault}
use Rattle.text_lines.specs.Lines.{lines_of}
use Rattle.ihex_read.specs.Reading.{Reading, FaultsWithin, HasEnded, TellsFront, TellsWhole}
use Rattle.streams.specs.Stream.{Takes, IsAtEnd}
use Rattle.vsa_top.specs.Input.{text_limit, front_of, Gives, InputGives, IsTooLong, LacksImage, begun_with, input_error_of}
use Rattle.vsa_top.specs.declared.input.InputError.{InputError}

-- what holds of the one error
pub IfErr-is : {A E : Type 0} (r : Result A E) (error : E) (P : E → Type 0) → IsErrAnd r (λ e. e ≡ error) → P error → IfErr r P
IfErr-is (Ok value) error P is holds = tt
IfErr-is (Err e) error P is holds = subst P (sym is) holds

-- a whole first fault stays one
abbrev FaultsStay : Type 0
FaultsStay = (rules : Rules) (tail : Tail) (text more : List ℕ) (line : ℕ) (fault : HexFault)
    → FaultsWithin rules tail text line fault → FaultsWithin rules tail (text ++ more) line fault

-- the first bytes of a text begin with any front of it that is within the limit
pub front_goes_on : (front more : List ℕ) → length front ≤ text_limit
    → front_of (front ++ more) ≡ front ++ take (text_limit - length front) more
front_goes_on front more fits =
    let size : text_limit ≡ length front + (text_limit - length front) = omega (arith, fits) in
    ap (λ n. take n (front ++ more)) size ∙ take-append-add front more (text_limit - length front)

-- what is used of a piece, and all that comes behind
used_front : (text piece behind : List ℕ) (count : ℕ)
    → (text ++ piece) ++ behind ≡ (text ++ take count piece) ++ (drop count piece ++ behind)
used_front text piece behind count =
    ap (λ p. (text ++ p) ++ behind) (sym (take-append-drop count piece))
    ∙ ap (λ t. t ++ behind) (sym (append_assoc text (take count piece) (drop count piece)))
    ∙ append_assoc (text ++ take count piece) (drop count piece) behind

bad_front : FaultsStay → (rules : Rules) (tail : Tail) (front more : List ℕ) (error : HexError)
    → length front ≤ text_limit → TellsFront rules tail front error
    → LacksImage rules tail (front ++ more) (input_error_of error)
bad_front stay rules tail front more (Bad line fault) fits faults =
    let first = stay rules tail front (take (text_limit - length front) more) line fault faults in
    let whole = subst (λ t. FaultsWithin rules tail t line fault) (sym (front_goes_on front more fits)) first in
    record { first = whole.0; told = inl whole.1 }
bad_front stay rules tail front more Memory fits faults = tt

-- how many bytes are read with the front of a piece
front_size : (text piece : List ℕ) (count : ℕ) → length (text ++ take count piece) ≡ length text + min count (length piece)
front_size text piece count = length-append text (take count piece) ∙ ap (λ n. length text + n) (length-take count piece)

-- a fault in what is used of a piece
pub bad_piece : FaultsStay → (rules : Rules) (tail : Tail) (text piece behind : List ℕ) (room count : ℕ) (error : HexError)
    → length text + room ≡ text_limit → count ≡ min (length piece) room → TellsFront rules tail (text ++ take count piece) error
    → LacksImage rules tail ((text ++ piece) ++ behind) (input_error_of error)
bad_piece stay rules tail text piece behind room count error size least tells =
    let fits : length (text ++ take count piece) ≤ text_limit = omega (arith, front_size text piece count, size, least) in
    let bad = bad_front stay rules tail (text ++ take count piece) (drop count piece ++ behind) error fits tells in
    subst (λ t. LacksImage rules tail t (input_error_of error)) (sym (used_front text piece behind count)) bad

-- no fault in the longest text, and more behind, which is no second text
pub long_piece : (rules : Rules) (tail : Tail) (text piece behind : List ℕ) (room count : ℕ)
    → length text + room ≡ text_limit → count ≡ min (length piece) room → count < length piece
    → ((line : ℕ) (fault : HexFault) → FaultsWithin rules tail (text ++ take count piece) line fault → ⊥)
    → (tail ≡ Second → HasEnded rules (text ++ take count piece) → ⊥)
    → IsTooLong rules tail ((text ++ piece) ++ behind)
long_piece rules tail text piece behind room count size least more faultless unended =
    let front = text ++ take count piece in
    let full : length front ≡ text_limit = omega (arith, front_size text piece count, size, least, more) in
    let is : front_of (front ++ (drop count piece ++ behind)) ≡ front =
    take-append-le text_limit front (drop count piece ++ behind) (omega (arith, full)) ∙ take_all text_limit front (omega (arith, full)) in
    subst (λ t. IsTooLong rules tail t) (sym (used_front text piece behind count)) (record {
      longer = omega (arith, full, length-append front (drop count piece ++ behind), length-append (drop count piece) behind, length-drop count piece, more);
      faultless = λ line fault faults. faultless line fault (subst (λ t. FaultsWithin rules tail t line fault) is faults);
      unended = λ second ended. unended second (subst (HasEnded rules) is ended);
    })

-- the first bytes of a text within the limit are all of them
all_of : (text : List ℕ) → length text ≤ text_limit → front_of text ≡ text
all_of text fits = take_all text_limit text fits

-- where a second text is expected, none has begun
abbrev pub NoneBegun : Rules → Tail → List ℕ → Type 0
NoneBegun rules tail text = tail ≡ Second → (k : ℕ) → k < length text → HasEnded rules (take k text) → ⊥

-- the reader has what was taken, and room for the rest of the longest text
pub record IsTaken (rules : Rules) (tail : Tail) (input left : Option (List ℕ)) (reader : Reading) (room : ℕ) : Type 0 where
  pub whole : input ≡ begun_with reader.text left
  pub same_rules : reader.rules ≡ rules
  pub same_tail : reader.tail ≡ tail
  pub faultless : reader.error ≡ None
  pub first : NoneBegun rules tail reader.text
  pub size : length reader.text + room ≡ text_limit

-- a reader that was given more
abbrev pub longer : Reading → List ℕ → Reading
longer reader piece = record reader { text = reader.text ++ piece }

begun_with-nothing : (left : Option (List ℕ)) → left ≡ begun_with [] left
begun_with-nothing None = refl
begun_with-nothing (Some left) = refl

-- nothing is taken at first
pub IsTaken-none : (rules : Rules) (tail : Tail) (input : Option (List ℕ)) (reader : Reading)
    → reader ≡ record { rules = rules; tail = tail; text = []; error = None }
    → IsTaken rules tail input input reader text_limit
IsTaken-none rules tail input reader is =
    let same : IsTaken rules tail input input (record { rules = rules; tail = tail; text = []; error = None }) text_limit = record {
      whole = begun_with-nothing input;
      same_rules = refl;
      same_tail = refl;
      faultless = refl;
      first = λ second k below. absurd (omega (arith, below));
      size = refl;
    } in
    subst (λ r. IsTaken rules tail input input r text_limit) (sym is) same

-- where a piece was taken
pub took : (text : List ℕ) (left : Option (List ℕ)) (buffer : List ℕ) (count : ℕ) (after : Option (List ℕ)) → Takes left count buffer after
    → begun_with text left ≡ begun_with (text ++ take count buffer) after
took text None buffer count after takes = ap (begun_with (text ++ take count buffer)) (sym takes)
took text (Some left) buffer count after takes =
    ap (λ bytes. Some (text ++ bytes)) (sym (take-append-drop count left))
    ∙ ap Some (sym (append_assoc text (take count left) (drop count left)))
    ∙ ap (λ bytes. Some ((text ++ bytes) ++ drop count left)) (sym takes.1)
    ∙ ap (begun_with (text ++ take count buffer)) (sym takes.2)

-- all of a piece is used
whole_piece : (piece : List ℕ) (used : ℕ) → length piece ≤ used → take used piece ≡ piece
whole_piece piece used all = take_all used piece all

pub IsTaken-more : (rules : Rules) (tail : Tail) (input left : Option (List ℕ)) (reader : Reading) (room : ℕ) (buffer : List ℕ) (count used : ℕ) (after : Option (List ℕ)) (new : Reading)
    → IsTaken rules tail input left reader room → Takes left count buffer after → length (take count buffer) ≡ count
    → used ≤ room → (used < count → ⊥) → used ≤ length (take count buffer)
    → new ≡ longer reader (take used (take count buffer))
    → NoneBegun reader.rules reader.tail (reader.text ++ take used (take count buffer))
    → IsTaken rules tail input after new (room - used)
IsTaken-more rules tail input left reader room buffer count used after new taken takes size fits not_less within is first =
    let all : take used (take count buffer) ≡ take count buffer = whole_piece (take count buffer) used (omega (arith, size, not_less, within)) in
    let same : IsTaken rules tail input after (longer reader (take used (take count buffer))) (room - used) = record {
      whole = taken.whole ∙ took reader.text left buffer count after takes ∙ ap (λ p. begun_with (reader.text ++ p) after) (sym all);
      same_rules = taken.same_rules;
      same_tail = taken.same_tail;
      faultless = taken.faultless;
      first = subst (λ r. NoneBegun r tail (reader.text ++ take used (take count buffer))) taken.same_rules
          (subst (λ t. NoneBegun reader.rules t (reader.text ++ take used (take count buffer))) taken.same_tail first);
      size = omega (arith, taken.size, length-append reader.text (take used (take count buffer)), ap length all, size, fits, not_less, within);
    } in
    subst (λ r. IsTaken rules tail input after r (room - used)) (sym is) same

gives_whole : (rules : Rules) (tail : Tail) (text : List ℕ) (image : List (Option ℕ)) → NoneBegun rules tail text → length text ≤ text_limit
    → Denotes rules tail (lines_of text) image → Gives rules tail text image []
gives_whole rules Blank text image first fits denoted = (record { fits = fits; denoted = denoted }, refl)
gives_whole rules Second text image first fits denoted = record {
  front = text;
  whole = sym (append-nil text);
  first = first refl;
  ends = inl refl;
  fits = fits;
  denoted = denoted;
}

-- at the end of the source the reader has all of the input
at_end : (rules : Rules) (tail : Tail) (left : Option (List ℕ)) (text : List ℕ) (image : List (Option ℕ)) → IsAtEnd left
    → Gives rules tail text image []
    → InputGives rules tail (begun_with text left) (begun_with [] left) image
at_end rules tail None text image end gives = tt
at_end rules tail (Some left) text image end gives =
    subst (λ t. (second : List ℕ) × (begun_with [] (Some left) ≡ Some second) × Gives rules tail t image second) (sym (append-nil text) ∙ ap (λ bytes. text ++ bytes) (sym end))
    ([], ap Some end, gives)

pub image_at_end : (rules : Rules) (tail : Tail) (input left after : Option (List ℕ)) (begun : List ℕ) (reader : Reading) (room : ℕ) (image : List (Option ℕ))
    → IsTaken rules tail input left reader room → IsAtEnd left → after ≡ left → begun ≡ []
    → Denotes reader.rules reader.tail (lines_of reader.text) image
    → InputGives rules tail input (begun_with begun after) image
image_at_end rules tail input left after begun reader room image taken end same nothing denoted =
    let own = subst (λ r. Denotes r reader.tail (lines_of reader.text) image) taken.same_rules denoted in
    let own_tail = subst (λ t. Denotes rules t (lines_of reader.text) image) taken.same_tail own in
    let gives = gives_whole rules tail reader.text image taken.first (omega (arith, taken.size)) own_tail in
    let whole = subst (λ i. InputGives rules tail i (begun_with [] left) image) (sym taken.whole) (at_end rules tail left reader.text image end gives) in
    subst (λ b. InputGives rules tail input (begun_with b after) image) (sym nothing)
    (subst (λ l. InputGives rules tail input (begun_with [] l) image) (sym same) whole)

-- a second text begins in a piece
stopped : (rules : Rules) (tail : Tail) (text piece : List ℕ) (used : ℕ) (after : Option (List ℕ)) (image : List (Option ℕ)) → tail ≡ Second
    → NoneBegun rules tail (text ++ take used piece) → HasEnded rules (text ++ take used piece)
    → length (text ++ take used piece) ≤ text_limit
    → Denotes rules tail (lines_of (text ++ take used piece)) image
    → InputGives rules tail (begun_with (text ++ piece) after) (begun_with (drop used piece) after) image
stopped rules tail text piece used None image second first ended fits denoted = tt
stopped rules tail text piece used (Some left) image second first ended fits denoted =
    subst (λ t. (behind : List ℕ) × (Some (drop used piece ++ left) ≡ Some behind) × Gives rules t ((text ++ piece) ++ left) image behind) (sym second) (
      drop used piece ++ left,
      refl,
      record {
        front = text ++ take used piece;
        whole = used_front text piece left used;
        first = first second;
        ends = inr ended;
        fits = fits;
        denoted = subst (λ t. Denotes rules t (lines_of (text ++ take used piece)) image) second denoted;
      },
    )

pub image_at_stop : (rules : Rules) (tail : Tail) (input left : Option (List ℕ)) (reader new : Reading) (room : ℕ) (buffer : List ℕ) (count used : ℕ) (after : Option (List ℕ))
    (begun : List ℕ) (image : List (Option ℕ)) → IsTaken rules tail input left reader room → Takes left count buffer after
    → new ≡ longer reader (take used (take count buffer)) → used ≤ room
    → NoneBegun reader.rules reader.tail (reader.text ++ take used (take count buffer))
    → (reader.tail ≡ Second) × HasEnded reader.rules (reader.text ++ take used (take count buffer))
    → begun ≡ drop used (take count buffer) → Denotes new.rules new.tail (lines_of new.text) image
    → InputGives rules tail input (begun_with begun after) image
image_at_stop rules tail input left reader new room buffer count used after begun image taken takes is fits first stops begins denoted =
    let piece = take count buffer in
    let front = reader.text ++ take used piece in
    let there = subst (λ (r : Reading). Denotes r.rules r.tail (lines_of r.text) image) is denoted in
    let own = subst (λ r. Denotes r reader.tail (lines_of front) image) taken.same_rules there in
    let own_tail = subst (λ t. Denotes rules t (lines_of front) image) taken.same_tail own in
    let own_first = subst (λ r. NoneBegun r tail front) taken.same_rules (subst (λ t. NoneBegun reader.rules t front) taken.same_tail first) in
    let gives = stopped rules tail reader.text piece used after image (sym taken.same_tail ∙ stops.0) own_first (subst (λ r. HasEnded r front) taken.same_rules stops.1)
    (omega (arith, taken.size, fits, front_size reader.text piece used)) own_tail in
    subst (λ b. InputGives rules tail input (begun_with b after) image) (sym begins)
    (subst (λ i. InputGives rules tail i (begun_with (drop used piece) after) image) (sym (taken.whole ∙ took reader.text left buffer count after takes)) gives)

bad_whole : (rules : Rules) (tail : Tail) (text : List ℕ) (error : HexError) → length text ≤ text_limit
    → TellsWhole rules tail (lines_of text) error
    → LacksImage rules tail text (input_error_of error)
bad_whole rules tail text (Bad line fault) fits first = record {
  first = subst (λ t. FirstFault rules tail (lines_of t) line fault) (sym (all_of text fits)) first;
  told = inr fits;
}
bad_whole rules tail text Memory fits none = absurd none

-- at the end of the source the reader has all of the input
lacks_whole : (rules : Rules) (tail : Tail) (left : Option (List ℕ)) (text : List ℕ) (error : InputError) → IsAtEnd left
    → LacksImage rules tail text error
    → IfSome (begun_with text left) (λ t. LacksImage rules tail t error)
lacks_whole rules tail None text error end lacks = tt
lacks_whole rules tail (Some left) text error end lacks =
    subst (λ t. LacksImage rules tail t error) (sym (append-nil text) ∙ ap (λ bytes. text ++ bytes) (sym end)) lacks

pub bad_at_end : (rules : Rules) (tail : Tail) (input left : Option (List ℕ)) (reader : Reading) (room : ℕ) (error : HexError)
    → IsTaken rules tail input left reader room
    → IsAtEnd left → TellsWhole reader.rules reader.tail (lines_of reader.text) error
    → IfSome input (λ text. LacksImage rules tail text (input_error_of error))
bad_at_end rules tail input left reader room error taken end tells =
    let own = subst (λ r. TellsWhole r reader.tail (lines_of reader.text) error) taken.same_rules tells in
    let own_tail = subst (λ t. TellsWhole rules t (lines_of reader.text) error) taken.same_tail own in
    let is = bad_whole rules tail reader.text error (omega (arith, taken.size)) own_tail in
    subst (λ i. IfSome i (λ text. LacksImage rules tail text (input_error_of error))) (sym taken.whole)
    (lacks_whole rules tail left reader.text (input_error_of error) end is)

-- where a piece is refused
refused_from : (rules : Rules) (tail : Tail) (text : List ℕ) (left : Option (List ℕ)) (error : InputError)
    → ((behind : List ℕ) → LacksImage rules tail (text ++ behind) error)
    → IfSome (begun_with text left) (λ whole. LacksImage rules tail whole error)
refused_from rules tail text None error lacks = tt
refused_from rules tail text (Some left) error lacks = lacks left

pub refused_piece : (rules : Rules) (tail : Tail) (input left : Option (List ℕ)) (reader : Reading) (room : ℕ) (buffer : List ℕ) (count : ℕ) (after : Option (List ℕ))
    (error : InputError) → IsTaken rules tail input left reader room → Takes left count buffer after
    → ((behind : List ℕ) → LacksImage reader.rules reader.tail ((reader.text ++ take count buffer) ++ behind) error)
    → IfSome input (λ text. LacksImage rules tail text error)
refused_piece rules tail input left reader room buffer count after error taken takes lacks =
    let whole = taken.whole ∙ took reader.text left buffer count after takes in
    let own : (behind : List ℕ) → LacksImage rules tail ((reader.text ++ take count buffer) ++ behind) error = λ behind.
    subst (λ t. LacksImage rules t ((reader.text ++ take count buffer) ++ behind) error) taken.same_tail
    (subst (λ r. LacksImage r reader.tail ((reader.text ++ take count buffer) ++ behind) error) taken.same_rules (lacks behind)) in
    subst (λ i. IfSome i (λ text. LacksImage rules tail text error)) (sym whole)
    (refused_from rules tail (reader.text ++ take count buffer) after error own)

-- a front of a front
take_front : (used count : ℕ) (piece : List ℕ) → used ≤ length (take count piece) → take used (take count piece) ≡ take used piece
take_front used count piece within = sym (take-append-le used (take count piece) (drop count piece) within) ∙ ap (take used) (take-append-drop count piece)

pub read_text : (old new : Reading) (used count : ℕ) (piece : List ℕ) → new ≡ longer old (take used (take count piece))
    → used ≤ length (take count piece)
    → new.text ≡ old.text ++ take used piece
read_text old new used count piece is within =
    ap (λ (r : Reading). r.text) is ∙ ap (λ p. old.text ++ p) (take_front used count piece within)

-- no second text has begun in what was read
pub none_begun : (old new : Reading) (used count : ℕ) (piece : List ℕ) → new ≡ longer old (take used (take count piece))
    → used ≤ length (take count piece)
    → (old.tail ≡ Second → (k : ℕ) → k < length new.text → HasEnded old.rules (take k new.text) → ⊥)
    → NoneBegun old.rules old.tail (old.text ++ take used piece)
none_begun old new used count piece is within first =
    subst (λ t. old.tail ≡ Second → (k : ℕ) → k < length t → HasEnded old.rules (take k t) → ⊥) (read_text old new used count piece is within) first

-- where a second text begins
pub ended_there : (old new : Reading) (tail : Tail) (used count : ℕ) (piece : List ℕ)
    → new ≡ longer old (take used (take count piece)) → used ≤ length (take count piece)
    → old.tail ≡ tail → (tail ≡ Second) × HasEnded new.rules new.text
    → (old.tail ≡ Second) × HasEnded old.rules (old.text ++ take used piece)
ended_there old new tail used count piece is within same ended = (
  same ∙ ended.0,
  subst (λ t. HasEnded old.rules t) (read_text old new used count piece is within)
      (subst (λ r. HasEnded r new.text) (ap (λ (r : Reading). r.rules) is) ended.1),
)

-- all of the front was used, where no second text begins
pub used_all : (old new : Reading) (tail : Tail) (used count : ℕ) (piece : List ℕ) → new ≡ longer old (take used (take count piece))
    → old.tail ≡ tail → ((tail ≡ Second) × HasEnded new.rules new.text → ⊥)
    → (used < length (take count piece) → (old.tail ≡ Second) × HasEnded old.rules new.text) → used < length (take count piece) → ⊥
used_all old new tail used count piece is same not stops fewer =
    not (sym same ∙ (stops fewer).0, subst (λ r. HasEnded r new.text) (sym (ap (λ (r : Reading). r.rules) is)) (stops fewer).1)

pub more_behind : (used count room : ℕ) (piece : List ℕ) → count ≡ min (length piece) room → used < length piece
    → used ≤ length (take count piece)
    → (used < length (take count piece) → ⊥) → count < length piece
more_behind used count room piece least fewer within not = omega (arith, least, fewer, within, not, length-take count piece)

-- no second text begins there
pub unended : (old new : Reading) (tail : Tail) (used count : ℕ) (piece : List ℕ)
    → new ≡ longer old (take used (take count piece)) → used ≤ length (take count piece)
    → old.tail ≡ tail → ((tail ≡ Second) × HasEnded new.rules new.text → ⊥) → (used < length (take count piece) → ⊥)
    → (old.tail ≡ Second → HasEnded old.rules (old.text ++ take count piece) → ⊥)
unended old new tail used count piece is within same not less second ended =
    let rules : new.rules ≡ old.rules = ap (λ (r : Reading). r.rules) is in
    let all : take used (take count piece) ≡ take count piece = whole_piece (take count piece) used (omega (arith, less, within)) in
    let text : new.text ≡ old.text ++ take count piece = ap (λ (r : Reading). r.text) is ∙ ap (λ p. old.text ++ p) all in
    not (sym same ∙ second, subst (λ t. HasEnded new.rules t) (sym text) (subst (λ r. HasEnded r (old.text ++ take count piece)) (sym rules) ended))

-- a text that has ended has no fault
abbrev EndedAreFaultless : Type 0
EndedAreFaultless = (rules : Rules) (text : List ℕ) (line : ℕ) (fault : HexFault) → HasEnded rules text → FirstFault rules Second (lines_of text) line fault → ⊥

none_at_stop : EndedAreFaultless → (rules : Rules) (tail : Tail) (text : List ℕ) (error : HexError) → tail ≡ Second → HasEnded rules text
    → TellsWhole rules tail (lines_of text) error → ⊥
none_at_stop faultless rules tail text (Bad line fault) second ended first =
    faultless rules text line fault ended (subst (λ t. FirstFault rules t (lines_of text) line fault) second first)
none_at_stop faultless rules tail text Memory second ended none = none

-- where a second text begins no fault is found
pub no_fault_at_stop : EndedAreFaultless → (reader new : Reading) (used count : ℕ) (piece : List ℕ) (error : HexError)
    → new ≡ longer reader (take used piece) → (reader.tail ≡ Second) × HasEnded reader.rules (reader.text ++ take used piece)
    → TellsWhole new.rules new.tail (lines_of new.text) error → ⊥
no_fault_at_stop faultless reader new used count piece error is stops tells =
    none_at_stop faultless reader.rules reader.tail (reader.text ++ take used piece) error stops.0 stops.1
    (subst (λ (r : Reading). TellsWhole r.rules r.tail (lines_of r.text) error) is tells)

-- the bytes of a buffer from one place up to another
pub behind_used : (used count : ℕ) (buffer : List ℕ) → used ≤ count → take (count - used) (drop used buffer) ≡ drop used (take count buffer)
behind_used used count buffer less =
    let size : used + (count - used) ≡ count = omega (arith, less) in
    sym (drop-take used (count - used) buffer) ∙ ap (λ n. drop used (take n buffer)) size

-- a call that took nothing left all
pub nothing_taken : (left : Option (List ℕ)) (count : ℕ) (buffer : List ℕ) (after : Option (List ℕ))
    → Takes left count buffer after → count ≡ 0 → after ≡ left
nothing_taken None count buffer after takes none = takes
nothing_taken (Some bytes) count buffer after takes none = takes.2 ∙ ap (λ n. Some (drop n bytes)) none
