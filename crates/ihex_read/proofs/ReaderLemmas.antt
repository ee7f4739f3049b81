-- What a reader that has used a text tells of it.
use Rattle.std.proofs.Common.{◌≡◌, ℕ, ◌+◌, ◌-◌, ◌<◌, ◌≤◌, Bool, true, false, List, [], ◌∷◌, ◌++◌, length, get_or, take, drop, refl, sym, ◌∙◌, ap, subst, append_assoc, length-append, length-drop, arith}
use Rattle.std.specs.Prelude.{map, flat_map, Option, Some, All, ◌↔◌}
use Rattle.std.proofs.lemmas.List.{append-nil, take-append-drop, take_rest, take_all, length-map, map-append, flat_map_more}
use Rattle.std.proofs.lemmas.List.Elements.{All-push}
use Rattle.std.proofs.Math.Seq.{take-add, take-append_seam}
use Rattle.image.specs.declared.rule_set.Rules.{Rules}
use Rattle.image.specs.declared.tail.Tail.{Tail}
use Rattle.image.specs.declared.tail.Tail.TheVariants.{Blank, Second}
use Rattle.ihex_read.specs.declared.fault.HexFault.{HexFault}
use Rattle.ihex_read.specs.ImageText.{is_end, IsOpen, Ends, FirstFault, of_line, no_end, trailing}
use Rattle.text_lines.specs.Lines.{feeds_of, without_return, last_line, lines_of}
use Rattle.ihex_read.specs.declared.fault.HexError.{HexError}
use Rattle.ihex_read.specs.Reading.{HasEnded, FaultsWithin, TellsFront}
use Rattle.ihex_read.specs.Stages.{joined, IsCut, IsUsed, IsGoing, IsOver, Stands, GoesOn, next_fault, HasRead}
use Rattle.ihex_read.proofs.FrontLemmas.{front_cut, has_ended_more, end_stays, tells_more, none_behind_end}
use Rattle.ihex_read.proofs.LawLemmas.{not_blank}
use Rattle.ihex_read.proofs.PieceLemmas.{IsUnbroken, IsFirstFeed, pieces_of, lines_of-joined, lines_of-joined_end, feeds_of-append, feeds_of-joined, feeds_of-joined_end}
use Rattle.ihex_read.proofs.StageLemmas.{next_first}
use Rattle.ihex_read.proofs.TextLemmas.{among_open, one_end, no_end_behind_fault, both_ends}

-- no first fault stands in open lines
open_no_fault : (rules : Rules) (tail : Tail) (lines more : List (List ℕ)) {line : ℕ} {fault : HexFault} → IsOpen rules lines
    → FirstFault rules tail (lines ++ more) line fault → line ≤ length lines → ⊥
open_no_fault rules tail lines more all_open (of_line before line behind fault whole open_before faulty) h =
    let accepted = (among_open rules before lines line behind more (sym whole) (omega arith) all_open).0 in cc (accepted, faulty)
open_no_fault rules tail lines more all_open (no_end all_of_them) h = omega (arith, length-append lines more)
open_no_fault rules tail lines more all_open (trailing before line blank bad behind ends blank_lines bad_there blank_tail) h =
    both_ends (is_end line) ends.ends (among_open rules before lines line (blank ++ bad ∷ behind) more (sym ends.whole) (omega arith) all_open).1

-- the end record's line in a text that goes on
over_ends : (rules : Rules) (tail : Tail) (lines more : List (List ℕ)) (image : List (Option ℕ)) → (over : IsOver rules tail lines image)
    → Ends rules (lines ++ more) over.before over.line (over.behind ++ more)
over_ends rules tail lines more image over = record {
  whole = ap (λ l. l ++ more) over.ends.whole ∙ append_assoc over.before (over.line ∷ over.behind) more;
  open_before = over.ends.open_before;
  accepted = over.ends.accepted;
  ends = over.ends.ends;
}

over_size : (rules : Rules) (tail : Tail) (lines : List (List ℕ)) (image : List (Option ℕ)) → (over : IsOver rules tail lines image)
    → length lines ≡ length over.before + 1 + length over.behind
over_size rules tail lines image over = omega (arith, ap length over.ends.whole, length-append over.before (over.line ∷ over.behind))

-- nor in lines that were accepted up to an end record's and behind it
over_no_fault : (rules : Rules) (tail : Tail) (lines more : List (List ℕ)) (image : List (Option ℕ)) {line : ℕ} {fault : HexFault}
    → IsOver rules tail lines image
    → FirstFault rules tail (lines ++ more) line fault → line ≤ length lines → ⊥
over_no_fault rules tail lines more image over (of_line before line behind fault whole open_before faulty) h =
    no_end_behind_fault rules (lines ++ more) before over.before line over.line behind (over.behind ++ more) fault whole open_before (sym faulty)
    (over_ends rules tail lines more image over)
over_no_fault rules tail lines more image over (no_end all_open) h = omega (arith, length-append lines more)
over_no_fault rules tail lines more image over (trailing before line blank bad behind ends blank_lines bad_there blank_tail) h =
    let same = one_end rules (lines ++ more) over.before before over.line line (over.behind ++ more) (blank ++ bad ∷ behind) (over_ends rules tail lines more image over) ends in
    let size = over_size rules tail lines image over in
    let cut = front_cut over.behind more blank bad behind same.2 (omega (arith, size, ap length same.0)) in
    let used : All (λ l. l ≡ []) over.behind = subst (λ t. IsUsed t over.behind) blank_tail over.used in
    bad_there (not_blank blank cut.0 bad (subst (All (λ l. l ≡ [])) cut.1 used))

pub stands_no_fault : (rules : Rules) (tail : Tail) (lines more : List (List ℕ)) (ended : Bool) (base : ℕ) (image : List (Option ℕ)) {line : ℕ} {fault : HexFault}
    → Stands rules tail lines ended base image → FirstFault rules tail (lines ++ more) line fault → line ≤ length lines → ⊥
stands_no_fault rules tail lines more false base image going first h = open_no_fault rules tail lines more going.all_open first h
stands_no_fault rules tail lines more true base image over first h = over_no_fault rules tail lines more image over first h

-- nothing faulty is whole in the text
pub read_no_fault : (rules : Rules) (tail : Tail) (whole : List (List ℕ)) (begun : List ℕ) (ended : Bool) (base : ℕ) (image : List (Option ℕ)) (line : ℕ) (fault : HexFault)
    → HasRead rules tail whole begun ended base image → FaultsWithin rules tail (joined whole begun) line fault → ⊥
read_no_fault rules tail whole begun ended base image line fault read faults =
    let first = subst (λ lines. FirstFault rules tail lines line fault) (lines_of-joined_end whole begun read.cut) faults.0 in
    stands_no_fault rules tail (map without_return whole) (last_line begun) ended base image read.stands first
    (omega (arith, faults.1, feeds_of-joined_end whole begun read.cut, length-map whole without_return))

-- whether the text has ended
over_has_ended : (rules : Rules) (tail : Tail) (whole : List (List ℕ)) (begun : List ℕ) (image : List (Option ℕ)) → IsCut whole begun
    → IsOver rules tail (map without_return whole) image → HasEnded rules (joined whole begun)
over_has_ended rules tail whole begun image cut over =
    let ends = over_ends rules tail (map without_return whole) (last_line begun) image over in
    let size = over_size rules tail (map without_return whole) image over in (
      over.before,
      over.line,
      over.behind ++ last_line begun,
      subst (λ lines. Ends rules lines over.before over.line (over.behind ++ last_line begun)) (sym (lines_of-joined_end whole begun cut)) ends,
      omega (arith, size, feeds_of-joined_end whole begun cut, length-map whole without_return),
    )

going_not_ended : (rules : Rules) (whole : List (List ℕ)) (begun : List ℕ) (base : ℕ) (image : List (Option ℕ)) → IsCut whole begun
    → IsGoing rules (map without_return whole) base image → HasEnded rules (joined whole begun) → ⊥
going_not_ended rules whole begun base image cut going ended =
    let lines = lines_of-joined_end whole begun cut in
    let ends = subst (λ l. Ends rules l ended.0 ended.1 ended.2) lines ended.3 in
    let fits : length ended.0 < length (map without_return whole) = omega (arith, ended.4, feeds_of-joined_end whole begun cut, length-map whole without_return) in
    both_ends (is_end ended.1) ends.ends (among_open rules ended.0 (map without_return whole) ended.1 ended.2 (last_line begun) (sym ends.whole) fits going.all_open).1

stands_ended : (rules : Rules) (tail : Tail) (whole : List (List ℕ)) (begun : List ℕ) (ended : Bool) (base : ℕ) (image : List (Option ℕ))
    → IsCut whole begun
    → Stands rules tail (map without_return whole) ended base image → (ended ≡ true) ↔ HasEnded rules (joined whole begun)
stands_ended rules tail whole begun true base image cut over = (λ is. over_has_ended rules tail whole begun image cut over, λ has. refl)
stands_ended rules tail whole begun false base image cut going = (λ is. cc is, λ has. absurd (going_not_ended rules whole begun base image cut going has))

pub read_ended : (rules : Rules) (tail : Tail) (whole : List (List ℕ)) (begun : List ℕ) (ended : Bool) (base : ℕ) (image : List (Option ℕ))
    → HasRead rules tail whole begun ended base image → (ended ≡ true) ↔ HasEnded rules (joined whole begun)
read_ended rules tail whole begun ended base image read = stands_ended rules tail whole begun ended base image read.cut read.stands

last_line_one : (b : ℕ) (bytes : List ℕ) → length (last_line (b ∷ bytes)) ≡ 1
last_line_one b bytes = refl

some_last_line : (bytes : List ℕ) → 0 < length bytes → length (last_line bytes) ≡ 1
some_last_line [] h = absurd (omega arith)
some_last_line (b ∷ bytes) h = refl

-- more bytes without a line feed make one line more than there are line feeds
lines_of-unbroken : (text more : List ℕ) → feeds_of more ≡ 0 → 0 < length more
    → length (lines_of (text ++ more)) ≡ feeds_of (text ++ more) + 1
lines_of-unbroken text more unbroken some =
    let pieces = pieces_of text in
    let cut : IsCut pieces.whole (pieces.begun ++ more) = record { each = pieces.cut.each; last = omega (arith, feeds_of-append pieces.begun more, pieces.cut.last) } in
    let is : text ++ more ≡ joined pieces.whole (pieces.begun ++ more) =
    ap (λ t. t ++ more) pieces.is ∙ append_assoc (flat_map (λ line. line ++ 10 ∷ []) pieces.whole) pieces.begun more in
    let lines = ap length (lines_of-joined_end pieces.whole (pieces.begun ++ more) cut) in
    let one = some_last_line (pieces.begun ++ more) (omega (arith, length-append pieces.begun more)) in
    rw is (omega (
      arith,
      lines,
      length-append (map without_return pieces.whole) (last_line (pieces.begun ++ more)),
      one,
      feeds_of-joined_end pieces.whole (pieces.begun ++ more) cut,
      length-map pieces.whole without_return,
    ))

-- a text that ends with the end record's line hasn't ended before
first_end : (rules : Rules) (whole : List (List ℕ)) (image : List (Option ℕ)) (k : ℕ) → IsCut whole []
    → IsOver rules Second (map without_return whole) image → k < length (joined whole []) → HasEnded rules (take k (joined whole [])) → ⊥
first_end rules whole image k cut over h ended =
    let text = joined whole [] in
    let parts : take k text ++ drop k text ≡ text = take-append-drop k text in
    let lines : lines_of text ≡ map without_return whole = lines_of-joined_end whole [] cut ∙ append-nil (map without_return whole) in
    let feeds = feeds_of-joined_end whole [] cut in
    let stays = end_stays rules (take k text) (drop k text) ended in
    let other : Ends rules (map without_return whole) ended.0 ended.1 stays.0 = subst (λ l. Ends rules l ended.0 ended.1 stays.0) (ap lines_of parts ∙ lines) stays.1 in
    let same = one_end rules (map without_return whole) over.before ended.0 over.line ended.1 over.behind stays.0 over.ends other in
    let size = over_size rules Second (map without_return whole) image over in
    let all_feeds = feeds_of-append (take k text) (drop k text) in
    let unbroken : feeds_of (drop k text) ≡ 0 = omega (arith, all_feeds, ap feeds_of parts, feeds, size, ap length same.0, ap length over.used, ended.4, length-map whole without_return) in
    let longer = lines_of-unbroken (take k text) (drop k text) unbroken (omega (arith, length-drop k text)) in
    omega (arith, longer, ap (λ t. length (lines_of t)) parts, ap feeds_of parts, ap length lines, feeds, length-map whole without_return)

second_first_end : (rules : Rules) (tail : Tail) (whole : List (List ℕ)) (begun : List ℕ) (image : List (Option ℕ)) (k : ℕ)
    → tail ≡ Second → IsCut whole begun
    → begun ≡ [] → IsOver rules tail (map without_return whole) image → k < length (joined whole begun)
    → HasEnded rules (take k (joined whole begun)) → ⊥
second_first_end rules Second whole [] image k second cut empty over h ended = first_end rules whole image k cut over h ended
second_first_end rules Blank whole begun image k second cut empty over h ended = cc second
second_first_end rules Second whole (b ∷ begun) image k second cut empty over h ended = cc empty

no_going : (tail : Tail) → tail ≡ Second → GoesOn tail true → ⊥
no_going Second second goes = goes
no_going Blank second goes = cc second

-- with a second text behind it, no front of the text had ended
pub read_first_end : (rules : Rules) (tail : Tail) (whole : List (List ℕ)) (begun : List ℕ) (ended : Bool) (base : ℕ) (image : List (Option ℕ)) (k : ℕ)
    → HasRead rules tail whole begun ended base image → tail ≡ Second → k < length (joined whole begun)
    → HasEnded rules (take k (joined whole begun)) → ⊥
read_first_end rules tail whole begun false base image k read second h ended =
    let text = joined whole begun in
    let longer = has_ended_more rules (take k text) (drop k text) ended in
    going_not_ended rules whole begun base image read.cut read.stands (subst (HasEnded rules) (take-append-drop k text) longer)
read_first_end rules tail whole begun true base image k read second h ended =
    second_first_end rules tail whole begun image k second read.cut (read.rest (no_going tail second)) read.stands h ended

-- where the text goes on
pub goes_on : (rules : Rules) (tail : Tail) (whole : List (List ℕ)) (begun : List ℕ) (ended : Bool) (base : ℕ) (image : List (Option ℕ))
    → IsCut whole begun
    → Stands rules tail (map without_return whole) ended base image
    → (tail ≡ Second → HasEnded rules (joined whole begun) → ⊥) → GoesOn tail ended
goes_on rules Second whole begun true base image cut over going = going refl (over_has_ended rules Second whole begun image cut over)
goes_on rules Blank whole begun true base image cut over going = tt
goes_on rules Blank whole begun false base image cut stands going = tt
goes_on rules Second whole begun false base image cut stands going = tt

-- bytes of the line that has begun
pub read_begin : (rules : Rules) (tail : Tail) (whole : List (List ℕ)) (begun bytes : List ℕ) (ended : Bool) (base : ℕ) (image : List (Option ℕ))
    → HasRead rules tail whole begun ended base image → feeds_of bytes ≡ 0 → (tail ≡ Second → HasEnded rules (joined whole begun) → ⊥)
    → length (joined whole begun) + length bytes ≤ 4194304 → HasRead rules tail whole (begun ++ bytes) ended base image
read_begin rules tail whole begun bytes ended base image read unbroken going room = record {
  cut = record { each = read.cut.each; last = omega (arith, feeds_of-append begun bytes, read.cut.last, unbroken) };
  stands = read.stands;
  rest = λ stops. absurd (stops (goes_on rules tail whole begun ended base image read.cut read.stands going));
  small = omega (arith, room, length-append (flat_map (λ line. line ++ 10 ∷ []) whole) begun, length-append (flat_map (λ line. line ++ 10 ∷ []) whole) (begun ++ bytes), length-append begun bytes);
}

joined-more : (whole : List (List ℕ)) (begun : List ℕ) → joined (whole ++ begun ∷ []) [] ≡ joined whole begun ++ 10 ∷ []
joined-more whole begun =
    append-nil (flat_map (λ line. line ++ 10 ∷ []) (whole ++ begun ∷ [])) ∙ sym (flat_map_more (λ line. line ++ 10 ∷ []) [] whole begun)
    ∙ sym (append_assoc (flat_map (λ line. line ++ 10 ∷ []) whole) begun (10 ∷ []))

-- the line feed of the line that has begun
pub read_line : (rules : Rules) (tail : Tail) (whole : List (List ℕ)) (begun : List ℕ) (ended new_ended : Bool) (base new_base : ℕ) (image new_image : List (Option ℕ))
    → HasRead rules tail whole begun ended base image
    → Stands rules tail (map without_return whole ++ without_return begun ∷ []) new_ended new_base new_image
    → length (joined whole begun) < 4194304 → HasRead rules tail (whole ++ begun ∷ []) [] new_ended new_base new_image
read_line rules tail whole begun ended new_ended base new_base image new_image read stands room = record {
  cut = record { each = All-push IsUnbroken whole begun read.cut.each read.cut.last; last = refl };
  stands = rw map-append stands;
  rest = λ stops. refl;
  small = omega (arith, room, ap length (joined-more whole begun), length-append (joined whole begun) (10 ∷ []));
}

-- a line that was refused leaves what stood
pub read_refused : (rules : Rules) (tail : Tail) (whole : List (List ℕ)) (begun : List ℕ) (ended new_ended : Bool) (base new_base : ℕ) (image new_image : List (Option ℕ))
    → HasRead rules tail whole begun ended base image → Stands rules tail (map without_return whole) new_ended new_base new_image
    → (tail ≡ Second → HasEnded rules (joined whole begun) → ⊥) → HasRead rules tail whole begun new_ended new_base new_image
read_refused rules tail whole begun ended new_ended base new_base image new_image read stands going = record {
  cut = read.cut;
  stands = stands;
  rest = λ stops. absurd (stops (goes_on rules tail whole begun new_ended new_base new_image read.cut stands going));
  small = read.small;
}

-- the fault of the line that has begun, where its line feed comes
pub read_bad : (rules : Rules) (tail : Tail) (whole : List (List ℕ)) (begun : List ℕ) (ended : Bool) (base : ℕ) (image : List (Option ℕ)) (fault : HexFault) (line : ℕ)
    → HasRead rules tail whole begun ended base image → (tail ≡ Second → HasEnded rules (joined whole begun) → ⊥)
    → Some fault ≡ next_fault rules (map without_return whole) ended (without_return begun) → line ≡ length whole + 1
    → FaultsWithin rules tail (joined whole begun ++ 10 ∷ []) line fault
read_bad rules tail whole begun ended base image fault line read going faulty number =
    let first = next_first rules tail (map without_return whole) (without_return begun) [] ended base image fault read.stands
    (goes_on rules tail whole begun ended base image read.cut read.stands going) faulty in
    let is : line ≡ length (map without_return whole) + 1 = omega (arith, number, length-map whole without_return) in
    rw (lines_of-joined whole begun (10 ∷ []) read.cut, is) (first, omega (arith, feeds_of-joined whole begun (10 ∷ []) read.cut, length-map whole without_return))

-- as many lines as the text has bytes at most
pub read_count : (whole : List (List ℕ)) (begun : List ℕ) → length whole ≤ length (joined whole begun)
read_count [] begun = omega arith
read_count (line ∷ whole) begun = omega (
  arith,
  read_count whole begun,
  length-append (line ++ 10 ∷ []) (flat_map (λ l. l ++ 10 ∷ []) whole),
  length-append line (10 ∷ []),
  length-append (flat_map (λ l. l ++ 10 ∷ []) (line ∷ whole)) begun,
  length-append (flat_map (λ l. l ++ 10 ∷ []) whole) begun,
)

-- a list without the element that was pushed
pub popped : {A : Type 0} (before pushed after : List A) (x : A) (n : ℕ) → pushed ≡ before ++ x ∷ [] → n ≡ length pushed
    → after ≡ take (n - 1) pushed
    → after ≡ before
popped before pushed after x n push size pop =
    let is : n - 1 ≡ length before = omega (arith, size, ap length push, length-append before (x ∷ [])) in
    pop ∙ ap (λ k. take k pushed) is ∙ ap (take (length before)) push ∙ take-append_seam before (x ∷ [])

-- as many whole lines as there were, and one
pub pushed_count : {A : Type 0} (line_of : A → List ℕ) (before pushed : List A) (x : A) (n size : ℕ)
    → pushed ≡ before ++ x ∷ [] → n ≡ size → size ≡ length pushed
    → n ≡ length (map line_of before) + 1
pushed_count line_of before pushed x n size push count is =
    omega (arith, count, is, ap length push, length-append before (x ∷ []), length-map before line_of)

-- bytes of a line end no text
pub read_going : (rules : Rules) (tail : Tail) (whole : List (List ℕ)) (begun bytes : List ℕ) (ended : Bool) (base : ℕ) (image : List (Option ℕ))
    → HasRead rules tail whole begun ended base image → feeds_of bytes ≡ 0 → (tail ≡ Second → HasEnded rules (joined whole begun) → ⊥)
    → tail ≡ Second → HasEnded rules (joined whole (begun ++ bytes)) → ⊥
read_going rules tail whole begun bytes ended base image read unbroken going second has =
    let cut : IsCut whole (begun ++ bytes) = record { each = read.cut.each; last = omega (arith, feeds_of-append begun bytes, read.cut.last, unbroken) } in
    let is = (stands_ended rules tail whole (begun ++ bytes) ended base image cut read.stands).1 has in
    going second ((read_ended rules tail whole begun ended base image read).0 is)

-- a piece up to its first line feed
pub front_text : (text piece : List ℕ) (at : ℕ) → IsFirstFeed piece at → (text ++ take at piece) ++ 10 ∷ [] ≡ text ++ take (at + 1) piece
front_text text piece at feed = append_assoc text (take at piece) (10 ∷ []) ∙ ap (λ t. text ++ t) (sym feed.line)

pub tells_piece : (rules : Rules) (tail : Tail) (text piece : List ℕ) (at : ℕ) (error : HexError) → IsFirstFeed piece at
    → TellsFront rules tail ((text ++ take at piece) ++ 10 ∷ []) error → TellsFront rules tail (text ++ piece) error
tells_piece rules tail text piece at error feed tells =
    let whole : (text ++ take (at + 1) piece) ++ drop (at + 1) piece ≡ text ++ piece =
    append_assoc text (take (at + 1) piece) (drop (at + 1) piece) ∙ ap (λ t. text ++ t) (take-append-drop (at + 1) piece) in
    subst (λ t. TellsFront rules tail t error) whole
    (tells_more rules tail (text ++ take (at + 1) piece) (drop (at + 1) piece) error
    (subst (λ t. TellsFront rules tail t error) (front_text text piece at feed) tells))

-- the piece begins with the line feed
pub tells_line : (rules : Rules) (tail : Tail) (text piece : List ℕ) (error : HexError) → 0 < length piece → get_or piece 0 0 ≡ 10
    → TellsFront rules tail (text ++ 10 ∷ []) error → TellsFront rules tail (text ++ piece) error
tells_line rules tail text [] error h is tells = absurd (omega arith)
tells_line rules tail text (byte ∷ piece) error h is tells =
    let whole : (text ++ 10 ∷ []) ++ piece ≡ text ++ byte ∷ piece = append_assoc text (10 ∷ []) piece ∙ ap (λ b. text ++ b ∷ piece) (sym is) in
    subst (λ t. TellsFront rules tail t error) whole (tells_more rules tail (text ++ 10 ∷ []) piece error tells)

pub count_lines : {A : Type 0} (line_of : A → List ℕ) (items : List A) (n size : ℕ) → n ≡ size → size ≡ length items
    → n ≡ length (map line_of items)
count_lines line_of items n size count is = count ∙ is ∙ sym (length-map items line_of)

pub read_small : (rules : Rules) (tail : Tail) (whole : List (List ℕ)) (begun : List ℕ) (ended : Bool) (base : ℕ) (image : List (Option ℕ))
    → HasRead rules tail whole begun ended base image → length whole ≤ 4194304
read_small rules tail whole begun ended base image read = omega (arith, read_count whole begun, read.small)

-- a text that ends with a line feed
pub end_feed : (rules : Rules) (tail : Tail) (whole : List (List ℕ)) (begun : List ℕ) (ended : Bool) (base : ℕ) (image : List (Option ℕ))
    → HasRead rules tail whole begun ended base image → length begun ≡ 0 → lines_of (joined whole begun) ≡ map without_return whole
end_feed rules tail whole [] ended base image read empty = lines_of-joined_end whole [] read.cut ∙ append-nil (map without_return whole)
end_feed rules tail whole (b ∷ begun) ended base image read empty = absurd (omega arith)

-- and one that doesn't
pub end_line : (rules : Rules) (tail : Tail) (whole : List (List ℕ)) (begun : List ℕ) (ended : Bool) (base : ℕ) (image : List (Option ℕ))
    → HasRead rules tail whole begun ended base image → 0 < length begun
    → lines_of (joined whole begun) ≡ map without_return whole ++ without_return begun ∷ []
end_line rules tail whole [] ended base image read some = absurd (omega arith)
end_line rules tail whole (b ∷ begun) ended base image read some = lines_of-joined_end whole (b ∷ begun) read.cut

nothing_begun : (begun : List ℕ) → begun ≡ [] → 0 < length begun → ⊥
nothing_begun begun e some = omega (arith, ap length e)

begun_goes_on : (tail : Tail) (ended : Bool) (begun : List ℕ) → ((GoesOn tail ended → ⊥) → begun ≡ [])
    → 0 < length begun → GoesOn tail ended
begun_goes_on Second true begun rest some = nothing_begun begun (rest (λ goes. goes)) some
begun_goes_on Blank true begun rest some = tt
begun_goes_on Blank false begun rest some = tt
begun_goes_on Second false begun rest some = tt

-- a line that has begun goes on
pub end_goes_on : (rules : Rules) (tail : Tail) (whole : List (List ℕ)) (begun : List ℕ) (ended : Bool) (base : ℕ) (image : List (Option ℕ))
    → HasRead rules tail whole begun ended base image → 0 < length begun → GoesOn tail ended
end_goes_on rules tail whole begun ended base image read some = begun_goes_on tail ended begun read.rest some

-- the fault of the last line
pub end_bad : (rules : Rules) (tail : Tail) (whole : List (List ℕ)) (begun : List ℕ) (ended : Bool) (base : ℕ) (image : List (Option ℕ)) (fault : HexFault) (count : ℕ)
    → HasRead rules tail whole begun ended base image → 0 < length begun
    → Some fault ≡ next_fault rules (map without_return whole) ended (without_return begun) → count ≡ length whole
    → FirstFault rules tail (lines_of (joined whole begun)) (count + 1) fault
end_bad rules tail whole begun ended base image fault count read some faulty number =
    let is : count ≡ length (map without_return whole) = number ∙ sym (length-map whole without_return) in
    rw (end_line rules tail whole begun ended base image read some, is)
    (next_first rules tail (map without_return whole) (without_return begun) [] ended base image fault read.stands
    (end_goes_on rules tail whole begun ended base image read some) faulty)

pub end_count : (whole : List (List ℕ)) (begun : List ℕ) (count : ℕ) → count ≡ length whole
    → count + 1 ≡ length (map without_return whole ++ without_return begun ∷ [])
end_count whole begun count number = omega (arith, number, length-map whole without_return, length-append (map without_return whole) (without_return begun ∷ []))

-- a further front of the piece
pub more_text : (text piece : List ℕ) (used count : ℕ)
    → (text ++ take used piece) ++ take count (take (length piece - used) (drop used piece)) ≡ text ++ take (used + count) piece
more_text text piece used count = rw take_rest
    (append_assoc text (take used piece) (take count (drop used piece)) ∙ ap (λ t. text ++ t) (sym (take-add used count piece)))

-- and all of it
pub all_text : (text piece : List ℕ) (used : ℕ) → (text ++ take used piece) ++ take (length piece - used) (drop used piece) ≡ text ++ piece
all_text text piece used = rw take_rest (append_assoc text (take used piece) (drop used piece) ∙ ap (λ t. text ++ t) (take-append-drop used piece))

-- nothing faulty in a text with all of the piece
pub none_in_all : (rules : Rules) (tail : Tail) (text piece : List ℕ) (used : ℕ) → length piece ≤ used
    → ((line : ℕ) (fault : HexFault) → FaultsWithin rules tail (text ++ take used piece) line fault → ⊥)
    → (line : ℕ) (fault : HexFault) → FaultsWithin rules tail (text ++ piece) line fault → ⊥
none_in_all rules tail text piece used all none line fault faults =
    none line fault (subst (λ t. FaultsWithin rules tail (text ++ t) line fault) (sym (take_all used piece all)) faults)

-- nor where a second text begins in the piece
pub none_behind : (rules : Rules) (tail : Tail) (text piece : List ℕ) (used : ℕ)
    → (tail ≡ Second) × HasEnded rules (text ++ take used piece)
    → (line : ℕ) (fault : HexFault) → FaultsWithin rules tail (text ++ piece) line fault → ⊥
none_behind rules tail text piece used done line fault faults =
    none_behind_end rules tail (text ++ take used piece) (drop used piece) line fault done.0 done.1
    (subst (λ t. FaultsWithin rules tail t line fault) (sym (all_text text piece used) ∙ ap (λ t. (text ++ take used piece) ++ t) (take_rest piece used)) faults)
