-- What the lines so far tell of the next line, and of the whole text.
use Rattle.std.proofs.Common.{◌≡◌, ℕ, ◌+◌, ◌<◌, Bool, true, false, List, [], ◌∷◌, ◌++◌, length, refl, sym, ◌∙◌, ap, subst, append_assoc, length-append, arith}
use Rattle.std.specs.Prelude.{not, Option, None, Some}
use Rattle.std.proofs.lemmas.Bool.Decides.{nat_tests}
use Rattle.std.proofs.lemmas.List.Elements.{All-nil, All-push}
use Rattle.image.specs.declared.rule_set.Rules.{Rules}
use Rattle.image.specs.declared.tail.Tail.{Tail}
use Rattle.image.specs.declared.tail.Tail.TheVariants.{Blank, Second}
use Rattle.ihex_read.specs.declared.fault.HexFault.{HexFault}
use Rattle.ihex_read.specs.declared.fault.HexFault.TheVariants.{NoEnd, Trailing}
use Rattle.ihex_read.specs.ImageText.{fault_of, is_end, Ends, IsTail, Denotes, FirstFault, of_line, no_end, trailing}
use Rattle.ihex_read.specs.Loading.{Made}
use Rattle.ihex_read.specs.Record.{record_of, type_of}
use Rattle.ihex_read.specs.Stages.{IsUsed, IsGoing, Stands, GoesOn, next_fault}
use Rattle.ihex_read.proofs.MadeLemmas.{placed_of-end}
use Rattle.ihex_read.specs.TextFacts.{open_more}
use Rattle.ihex_read.proofs.WrittenLemmas.{Holds}

-- a blank line behind the end record's
used_more : (tail : Tail) (behind : List (List ℕ)) → GoesOn tail true → IsUsed tail behind → IsUsed tail (behind ++ [] ∷ [])
used_more Blank behind goes used = All-push (λ line. line ≡ []) behind [] used refl
used_more Second behind goes used = absurd goes

pub over_more : (rules : Rules) (tail : Tail) (lines : List (List ℕ)) (line : List ℕ) (base : ℕ) (image : List (Option ℕ)) (ended : Bool)
    → ended ≡ true
    → length line ≡ 0 → Stands rules tail lines ended base image → GoesOn tail ended
    → Stands rules tail (lines ++ line ∷ []) ended base image
over_more rules tail lines [] base image true is empty over goes = record {
  before = over.before;
  line = over.line;
  behind = over.behind ++ [] ∷ [];
  ends = record {
    whole = ap (λ l. l ++ [] ∷ []) over.ends.whole ∙ append_assoc over.before (over.line ∷ over.behind) ([] ∷ []);
    open_before = over.ends.open_before;
    accepted = over.ends.accepted;
    ends = over.ends.ends;
  };
  used = used_more tail over.behind goes over.used;
  placed = over.placed;
}
over_more rules tail lines (b ∷ line) base image true is empty over goes = absurd (omega arith)
over_more rules tail lines line base image false is empty over goes = cc is

pub over_fault : (rules : Rules) (lines : List (List ℕ)) (line : List ℕ) (ended : Bool) → ended ≡ true → 0 < length line
    → Some Trailing ≡ next_fault rules lines ended line
over_fault rules lines [] true is some = absurd (omega arith)
over_fault rules lines (b ∷ line) true is some = refl
over_fault rules lines line false is some = cc is

ends_at : (line : List ℕ) → is_end line ≡ true → type_of (record_of line) ≡ 1
ends_at line h = grind (arith, nat_tests)

-- an accepted line more
pub going_more : (rules : Rules) (tail : Tail) (lines : List (List ℕ)) (line : List ℕ) (base new_base : ℕ) (image new_image : List (Option ℕ)) (ended : Bool)
    → IsGoing rules lines base image → fault_of rules lines line ≡ None → Made (lines ++ line ∷ []) new_base new_image → is_end line ≡ ended
    → Stands rules tail (lines ++ line ∷ []) ended new_base new_image
going_more rules tail lines line base new_base image new_image false going accepted made no_end_record =
    record { all_open = open_more rules lines line going.all_open accepted no_end_record; made = made }
going_more rules Blank lines line base new_base image new_image true going accepted made ends = record {
  before = lines;
  line = line;
  behind = [];
  ends = record { whole = refl; open_before = going.all_open; accepted = accepted; ends = ends };
  used = All-nil (λ l. l ≡ []);
  placed = record { size = made.placed.size; bytes = subst (Holds new_image) (placed_of-end lines line (ends_at line ends)) made.placed.bytes };
}
going_more rules Second lines line base new_base image new_image true going accepted made ends = record {
  before = lines;
  line = line;
  behind = [];
  ends = record { whole = refl; open_before = going.all_open; accepted = accepted; ends = ends };
  used = refl;
  placed = record { size = made.placed.size; bytes = subst (Holds new_image) (placed_of-end lines line (ends_at line ends)) made.placed.bytes };
}

pub stands_going : (rules : Rules) (tail : Tail) (lines : List (List ℕ)) (base : ℕ) (image : List (Option ℕ)) (ended : Bool) → ended ≡ false
    → Stands rules tail lines ended base image → IsGoing rules lines base image
stands_going rules tail lines base image false is going = going
stands_going rules tail lines base image true is over = cc is

-- the first fault of the text is that of its next line
pub next_first : (rules : Rules) (tail : Tail) (lines : List (List ℕ)) (line : List ℕ) (more : List (List ℕ)) (ended : Bool) (base : ℕ) (image : List (Option ℕ)) (fault : HexFault)
    → Stands rules tail lines ended base image → GoesOn tail ended → Some fault ≡ next_fault rules lines ended line
    → FirstFault rules tail (lines ++ line ∷ more) (length lines + 1) fault
next_first rules tail lines line more false base image fault going goes faulty = of_line lines line more fault refl going.all_open (sym faulty)
next_first rules Second lines line more true base image fault over goes faulty = absurd goes
next_first rules Blank lines [] more true base image fault over goes faulty = cc faulty
next_first rules Blank lines (b ∷ line) more true base image fault over goes faulty =
    let whole = ap (λ l. l ++ (b ∷ line) ∷ more) over.ends.whole ∙ append_assoc over.before (over.line ∷ over.behind) ((b ∷ line) ∷ more) in
    let ends : Ends rules (lines ++ (b ∷ line) ∷ more) over.before over.line (over.behind ++ (b ∷ line) ∷ more) = record {
      whole = whole;
      open_before = over.ends.open_before;
      accepted = over.ends.accepted;
      ends = over.ends.ends;
    } in
    let first = trailing over.before over.line over.behind (b ∷ line) more ends over.used (λ e. cc e) refl in
    let size : length lines ≡ length over.before + 1 + length over.behind = omega (arith, ap length over.ends.whole, length-append over.before (over.line ∷ over.behind)) in
    let is : fault ≡ Trailing = cc faulty in
    rw (size, is) first

used_tail : (tail : Tail) (behind : List (List ℕ)) → IsUsed tail behind → IsTail tail behind
used_tail Blank behind used = used
used_tail Second behind used = used

-- the image of lines with an end record
pub over_image : (rules : Rules) (tail : Tail) (lines : List (List ℕ)) (base : ℕ) (image : List (Option ℕ)) (ended : Bool)
    → not ended ≡ false
    → Stands rules tail lines ended base image → Denotes rules tail lines image
over_image rules tail lines base image true is over = (over.before, over.line, over.behind, over.ends, used_tail tail over.behind over.used, over.placed)
over_image rules tail lines base image false is going = cc is

-- the fault of lines without one
pub going_fault : (rules : Rules) (tail : Tail) (lines : List (List ℕ)) (base : ℕ) (image : List (Option ℕ)) (ended : Bool) (count : ℕ)
    → not ended ≡ true
    → Stands rules tail lines ended base image → count ≡ length lines → FirstFault rules tail lines (count + 1) NoEnd
going_fault rules tail lines base image false count is going size = rw size (no_end going.all_open)
going_fault rules tail lines base image true count is over size = cc is
