-- A text by its whole lines and the line that has begun, and one that goes on.
use Rattle.std.proofs.Common.{◌≡◌, ℕ, zero, suc, ◌+◌, ◌<◌, ◌≤◌, Bool, true, false, List, [], ◌∷◌, ◌++◌, length, take, get_or, refl, sym, ◌∙◌, ap, append_assoc, add-one, zero-add, arith}
use Rattle.std.specs.Prelude.{◌==◌, nat_lt, if◌then◌else◌, None, Some, position, map}
use Rattle.std.specs.List.{position_or_len}
use Rattle.std.proofs.lemmas.Bool.Decides.{nat_tests}
use Rattle.std.proofs.lemmas.List.{append-nil}
use Rattle.std.proofs.lemmas.List.Quantifiers.{position-Some}
use Rattle.std.proofs.lemmas.List.Sums.{sum_by-append, fails_before_first}
use Rattle.std.proofs.lemmas.List.Elements.{All-nil, All-cons, All-head, All-tail}
use Rattle.text_lines.specs.Lines.{feeds_of, without_return, last_line, lines_behind, lines_of}
use Rattle.ihex_read.specs.Stages.{joined, IsCut}

abbrev pub IsUnbroken : List ℕ → Type 0
IsUnbroken line = feeds_of line ≡ 0

pub feeds_of-append : (xs ys : List ℕ) → feeds_of (xs ++ ys) ≡ feeds_of xs + feeds_of ys
feeds_of-append xs ys = sum_by-append (λ byte. if byte == 10 then 1 else 0) xs ys

feeds_of-cons : (b : ℕ) (bytes : List ℕ) → feeds_of (b ∷ bytes) ≡ (if b == 10 then 1 else 0) + feeds_of bytes
feeds_of-cons b bytes = feeds_of-append (b ∷ []) bytes ∙ ap (λ n. n + feeds_of bytes) (zero-add (if b == 10 then 1 else 0))

none_first : (feed : Bool) (n : ℕ) → (if feed then 1 else 0) + n ≡ 0 → (feed ≡ false) × (n ≡ 0)
none_first true n h = absurd (omega arith)
none_first false n h = (refl, omega arith)

-- a byte of a line is no line feed
unbroken_head : (b : ℕ) (bytes : List ℕ) → feeds_of (b ∷ bytes) ≡ 0 → (b == 10) ≡ false
unbroken_head b bytes h = (none_first (b == 10) (feeds_of bytes) (sym (feeds_of-cons b bytes) ∙ h)).0

unbroken_tail : (b : ℕ) (bytes : List ℕ) → feeds_of (b ∷ bytes) ≡ 0 → feeds_of bytes ≡ 0
unbroken_tail b bytes h = (none_first (b == 10) (feeds_of bytes) (sym (feeds_of-cons b bytes) ∙ h)).1

-- what goes on with a line goes on with the first bytes of it
behind_unbroken : (begun bytes more : List ℕ) → feeds_of bytes ≡ 0 → lines_behind begun (bytes ++ more) ≡ lines_behind (begun ++ bytes) more
behind_unbroken begun [] more h = ap (λ b. lines_behind b more) (sym (append-nil begun))
behind_unbroken begun (b ∷ bytes) more h =
    rw (unbroken_head b bytes h)
    (behind_unbroken (begun ++ b ∷ []) bytes more (unbroken_tail b bytes h) ∙ ap (λ line. lines_behind line more) (append_assoc begun (b ∷ []) bytes))

-- the lines of a text that goes on behind its whole lines and the one that has begun
pub lines_of-joined : (whole : List (List ℕ)) (begun more : List ℕ) → IsCut whole begun
    → lines_of (joined whole begun ++ more) ≡ map without_return whole ++ lines_behind begun more
lines_of-joined [] begun more cut = behind_unbroken [] begun more cut.last
lines_of-joined (line ∷ whole) begun more cut =
    let first : feeds_of line ≡ 0 = All-head IsUnbroken line whole cut.each in
    let rest = lines_of-joined whole begun more (record { each = All-tail IsUnbroken line whole cut.each; last = cut.last }) in
    let text : joined (line ∷ whole) begun ++ more ≡ line ++ 10 ∷ (joined whole begun ++ more) = simp append_assoc in
    ap lines_of text ∙ behind_unbroken [] line (10 ∷ (joined whole begun ++ more)) first ∙ ap (λ lines. without_return line ∷ lines) rest

-- and of one that doesn't
pub lines_of-joined_end : (whole : List (List ℕ)) (begun : List ℕ) → IsCut whole begun
    → lines_of (joined whole begun) ≡ map without_return whole ++ last_line begun
lines_of-joined_end whole begun cut = ap lines_of (sym (append-nil (joined whole begun))) ∙ lines_of-joined whole begun [] cut

pub feeds_of-joined : (whole : List (List ℕ)) (begun more : List ℕ) → IsCut whole begun
    → feeds_of (joined whole begun ++ more) ≡ length whole + feeds_of more
feeds_of-joined [] begun more cut = omega (arith, feeds_of-append begun more, cut.last)
feeds_of-joined (line ∷ whole) begun more cut =
    let first : feeds_of line ≡ 0 = All-head IsUnbroken line whole cut.each in
    let rest = feeds_of-joined whole begun more (record { each = All-tail IsUnbroken line whole cut.each; last = cut.last }) in
    let text : joined (line ∷ whole) begun ++ more ≡ line ++ 10 ∷ (joined whole begun ++ more) = simp append_assoc in
    let feed : feeds_of (10 ∷ (joined whole begun ++ more)) ≡ 1 + feeds_of (joined whole begun ++ more) = feeds_of-cons 10 (joined whole begun ++ more) in
    ap feeds_of text ∙ feeds_of-append line (10 ∷ (joined whole begun ++ more)) ∙ omega (arith, first, rest, feed)

pub feeds_of-joined_end : (whole : List (List ℕ)) (begun : List ℕ) → IsCut whole begun → feeds_of (joined whole begun) ≡ length whole
feeds_of-joined_end whole begun cut = ap feeds_of (sym (append-nil (joined whole begun))) ∙ feeds_of-joined whole begun [] cut ∙ omega arith

-- each text is cut so
pub record Pieces (text : List ℕ) : Type 0 where
  pub whole : List (List ℕ)
  pub begun : List ℕ
  pub cut : IsCut whole begun
  pub is : text ≡ joined whole begun

other_byte : (b : ℕ) (bytes : List ℕ) → (b == 10) ≡ false → feeds_of bytes ≡ 0 → feeds_of (b ∷ bytes) ≡ 0
other_byte b bytes h rest = feeds_of-cons b bytes ∙ ap (λ feed. (if feed then 1 else 0) + feeds_of bytes) h ∙ omega (arith, rest)

is_ten : (b : ℕ) → (b == 10) ≡ true → b ≡ 10
is_ten b h = grind (arith, nat_tests)

one_more : (b : ℕ) (text : List ℕ) (whole : List (List ℕ)) (begun : List ℕ) → IsCut whole begun
    → text ≡ joined whole begun → (feed : Bool) → (b == 10) ≡ feed
    → Pieces (b ∷ text)
one_more b text whole begun cut is true feed = record {
  whole = [] ∷ whole;
  begun = begun;
  cut = record { each = All-cons IsUnbroken [] whole refl cut.each; last = cut.last };
  is = let ten = is_ten b feed in cc;
}
one_more b text [] begun cut is false feed = record {
  whole = [];
  begun = b ∷ begun;
  cut = record { each = All-nil IsUnbroken; last = other_byte b begun feed cut.last };
  is = cc;
}
one_more b text (line ∷ whole) begun cut is false feed = record {
  whole = (b ∷ line) ∷ whole;
  begun = begun;
  cut = record {
    each = All-cons IsUnbroken (b ∷ line) whole (other_byte b line feed (All-head IsUnbroken line whole cut.each)) (All-tail IsUnbroken line whole cut.each);
    last = cut.last;
  };
  is = cc;
}

pub pieces_of : (text : List ℕ) → Pieces text
pieces_of [] = record { whole = []; begun = []; cut = record { each = All-nil IsUnbroken; last = refl }; is = refl }
pieces_of (b ∷ text) = let rest = pieces_of text in one_more b text rest.whole rest.begun rest.cut rest.is (b == 10) refl

abbrev is_feed : ℕ → Bool
is_feed byte = byte == 10

unbroken_by : (text : List ℕ) → ((k : ℕ) → k < length text → is_feed (get_or text k 0) ≡ false) → feeds_of text ≡ 0
unbroken_by [] h = refl
unbroken_by (b ∷ text) h = other_byte b text (h 0 (omega arith)) (unbroken_by text (λ k less. h (suc k) (omega arith)))

front_by : (text : List ℕ) (at : ℕ) → at < length text → is_feed (get_or text at 0) ≡ true
    → ((k : ℕ) → k < at → is_feed (get_or text k 0) ≡ false)
    → (feeds_of (take at text) ≡ 0) × (take (suc at) text ≡ take at text ++ 10 ∷ [])
front_by [] at h here before = absurd (omega arith)
front_by (b ∷ text) zero h here before = let ten = is_ten b here in (refl, rw ten refl)
front_by (b ∷ text) (suc at) h here before =
    let rest = front_by text at (omega arith) here (λ k less. before (suc k) (omega arith)) in
    (other_byte b (take at text) (before 0 (omega arith)) rest.0, ap (λ t. b ∷ t) rest.1)

past_end : (at n : ℕ) → (if nat_lt at n then Some at else None) ≡ None → n ≤ at
past_end at n h = grind (arith, nat_tests)

-- no line feed
pub unbroken_text : (text : List ℕ) → position is_feed text ≡ None → feeds_of text ≡ 0
unbroken_text text e = let past = past_end (position_or_len is_feed text) (length text) e in
    unbroken_by text (λ k h. fails_before_first is_feed text k 0 (omega arith))

-- the bytes up to the first line feed
pub record IsFirstFeed (text : List ℕ) (at : ℕ) : Type 0 where
  pub within : at < length text
  pub front : feeds_of (take at text) ≡ 0
  pub line : take (at + 1) text ≡ take at text ++ 10 ∷ []

pub first_feed : (text : List ℕ) (at : ℕ) → position is_feed text ≡ Some at → IsFirstFeed text at
first_feed text at e =
    let found = position-Some is_feed text at 0 e in
    let front = front_by text at found.0 found.1 found.2 in
    record { within = found.0; front = front.0; line = rw (add-one at) front.1 }
