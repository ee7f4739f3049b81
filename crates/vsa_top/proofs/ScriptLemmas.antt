-- What was read of a script, and what it tells of the whole.
use Rattle.std.proofs.Common.{◌≡◌, ℕ, ◌+◌, ◌-◌, ◌<◌, ◌≤◌, List, ◌++◌, Option, None, Some, length, take, length-append, [], refl, sym, ◌∙◌, ap, subst, arith}
use Rattle.std.specs.Prelude.{IfSome, Ok, Err}
use Rattle.std.proofs.lemmas.List.{length-take, append-nil}
use Rattle.script_text.specs.declared.fault.ScriptError.{ScriptError}
use Rattle.script_text.specs.declared.fault.ScriptError.TheVariants as script_error
use Rattle.script_text.specs.Script.{script_of}
use Rattle.script_text.specs.Reading.{Reading, IsRefusedWithin, TellsWhole}
use Rattle.streams.specs.Stream.{Takes, IsAtEnd}
use Rattle.vsa_top.specs.Input.{begun_with}
use Rattle.vsa_top.specs.Scripts.{IsAt, IsScript, LacksScript, refusal_of, second_limit}
use Rattle.vsa_top.specs.Scripts.IsAt.{going, refused}
use Rattle.vsa_top.specs.declared.script.ScriptRefusal.{ScriptRefusal}
use Rattle.vsa_top.specs.declared.script.ScriptRefusal.TheVariants.{Failed, Memory, Syntax, TooLong}
use Rattle.vsa_top.proofs.InputLemmas.{took}

-- a refused line stays so
abbrev pub RefusalsStay : Type 0
RefusalsStay = (text more : List ℕ) (line : ℕ) → IsRefusedWithin text line → IsRefusedWithin (text ++ more) line

-- where a piece was taken whole
pub taken_whole : (reader new : Reading) (piece text : List ℕ) → new ≡ record reader { text = reader.text ++ piece }
    → ((error : ScriptError) → reader.error ≡ Some error → ⊥) → IsAt reader text → IsAt new (text ++ piece)
taken_whole reader new piece text is again (going none same) =
    going (ap (λ (r : Reading). r.error) is ∙ none) (ap (λ (r : Reading). r.text) is ∙ ap (λ t. t ++ piece) same)
taken_whole reader new piece text is again (refused line error less within) = absurd (again (script_error.Syntax line) error)

same_line : (line other : ℕ) → script_error.Syntax line ≡ script_error.Syntax other → line ≡ other
same_line line other h = cc h

-- where a line was refused, now or before
pub taken_refused : RefusalsStay → (reader new : Reading) (piece text : List ℕ) (line used : ℕ)
    → new ≡ record reader { text = reader.text ++ take used piece; error = Some (script_error.Syntax line) }
    → (reader.error ≡ None → IsRefusedWithin (reader.text ++ piece) line)
    → ((error : ScriptError) → reader.error ≡ Some error → error ≡ script_error.Syntax line) → IsAt reader text → IsAt new (text ++ piece)
taken_refused stay reader new piece text line used is bad again (going none same) =
    refused line (ap (λ (r : Reading). r.error) is)
    (omega (arith, ap (λ (r : Reading). length r.text) is, length-append reader.text (take used piece), length-take used piece, ap length same, length-append text piece))
    (subst (λ t. IsRefusedWithin (t ++ piece) line) same (bad none))
taken_refused stay reader new piece text line used is bad again (refused first error less within) =
    refused line (ap (λ (r : Reading). r.error) is)
    (omega (arith, ap (λ (r : Reading). length r.text) is, length-append reader.text (take used piece), length-take used piece, less, length-append text piece))
    (stay text piece line (subst (IsRefusedWithin text) (same_line first line (again (script_error.Syntax first) error)) within))

-- a reader has no more than it was given
pub has_at_most : (reader : Reading) (text : List ℕ) → IsAt reader text → length reader.text ≤ length text
has_at_most reader text (going none same) = omega (arith, ap length same)
has_at_most reader text (refused line error less within) = less

-- the reader was given what was taken, and there is room for the rest of the longest text
pub record IsFed (second left : Option (List ℕ)) (reader : Reading) (room : ℕ) : Type 0 where
  pub text : List ℕ
  pub whole : second ≡ begun_with text left
  pub at : IsAt reader text
  pub size : length text + room ≡ second_limit

pub fed_first : (reader new : Reading) (begun : List ℕ) (left : Option (List ℕ))
    → reader ≡ record { text = []; error = None } → length begun ≤ second_limit
    → ((text : List ℕ) → IsAt reader text → IsAt new (text ++ begun)) → IsFed (begun_with begun left) left new (second_limit - length begun)
fed_first reader new begun left is fits fed = record {
  text = begun;
  whole = refl;
  at = fed [] (going (ap (λ (r : Reading). r.error) is) (ap (λ (r : Reading). r.text) is));
  size = omega (arith, fits);
}

pub fed_more : (second left : Option (List ℕ)) (reader new : Reading) (room : ℕ) (buffer : List ℕ) (count : ℕ) (after : Option (List ℕ))
    → IsFed second left reader room → Takes left count buffer after → length (take count buffer) ≡ count → length (take count buffer) ≤ room
    → ((text : List ℕ) → IsAt reader text → IsAt new (text ++ take count buffer)) → IsFed second after new (room - count)
fed_more second left reader new room buffer count after fed taken size fits next = record {
  text = fed.text ++ take count buffer;
  whole = fed.whole ∙ took fed.text left buffer count after taken;
  at = next fed.text fed.at;
  size = omega (arith, fed.size, fits, size, length-append fed.text (take count buffer));
}

-- the whole of a text that is told, where its source is at its end
pub at_end : (left : Option (List ℕ)) (text : List ℕ) (P : List ℕ → Type 0) → IsAtEnd left → P text → IfSome (begun_with text left) P
at_end None text P end holds = tt
at_end (Some left) text P end holds = subst P (sym (append-nil text) ∙ ap (λ bytes. text ++ bytes) (sym end)) holds

script_at : (reader : Reading) (text numbers : List ℕ) → length text ≤ second_limit → script_of reader.text ≡ Ok numbers
    → ((error : ScriptError) → reader.error ≡ Some error → ⊥) → IsAt reader text → IsScript text numbers
script_at reader text numbers fits denoted again (going none same) = record { fits = fits; denoted = sym (ap script_of same) ∙ denoted }
script_at reader text numbers fits denoted again (refused line error less within) = absurd (again (script_error.Syntax line) error)

pub script_at_end : (second left : Option (List ℕ)) (reader : Reading) (room : ℕ) (numbers : List ℕ)
    → IsFed second left reader room → IsAtEnd left
    → script_of reader.text ≡ Ok numbers → ((error : ScriptError) → reader.error ≡ Some error → ⊥)
    → IfSome second (λ text. IsScript text numbers)
script_at_end second left reader room numbers fed end denoted again =
    subst (λ s. IfSome s (λ text. IsScript text numbers)) (sym fed.whole)
    (at_end left fed.text (λ text. IsScript text numbers) end (script_at reader fed.text numbers (omega (arith, fed.size)) denoted again fed.at))

lacks_at : (reader : Reading) (text : List ℕ) (error : ScriptError) → length text ≤ second_limit
    → (reader.error ≡ None → TellsWhole reader.text error)
    → ((held : ScriptError) → reader.error ≡ Some held → held ≡ error) → IsAt reader text → LacksScript text (refusal_of error)
lacks_at reader text (script_error.Syntax line) fits tells again (going none same) = record { fits = fits; refused = sym (ap script_of same) ∙ tells none }
lacks_at reader text (script_error.Syntax line) fits tells again (refused first error less within) =
    record { fits = fits; refused = within.0 ∙ ap Err (same_line first line (again (script_error.Syntax first) error)) }
lacks_at reader text script_error.Memory fits tells again at = tt

pub lacks_at_end : (second left : Option (List ℕ)) (reader : Reading) (room : ℕ) (error : ScriptError)
    → IsFed second left reader room → IsAtEnd left
    → (reader.error ≡ None → TellsWhole reader.text error) → ((held : ScriptError) → reader.error ≡ Some held → held ≡ error)
    → IfSome second (λ text. LacksScript text (refusal_of error))
lacks_at_end second left reader room error fed end tells again =
    subst (λ s. IfSome s (λ text. LacksScript text (refusal_of error))) (sym fed.whole)
    (at_end left fed.text (λ text. LacksScript text (refusal_of error)) end (lacks_at reader fed.text error (omega (arith, fed.size)) tells again fed.at))

nothing_told : (second : Option (List ℕ)) → IfSome second (λ text. Unit {0})
nothing_told None = tt
nothing_told (Some text) = tt

too_long : (left : Option (List ℕ)) (text : List ℕ) (room : ℕ) (buffer : List ℕ) (count : ℕ) (after : Option (List ℕ))
    → Takes left count buffer after
    → length text + room ≡ second_limit → room < length (take count buffer) → IfSome (begun_with text left) (λ t. second_limit < length t)
too_long None text room buffer count after taken size more = tt
too_long (Some bytes) text room buffer count after taken size more =
    omega (arith, size, more, length-append text bytes, length-take count bytes, ap length taken.1)

-- what is told where a piece is refused
pub piece_refused : (second left : Option (List ℕ)) (reader : Reading) (room : ℕ) (buffer : List ℕ) (count : ℕ) (after : Option (List ℕ)) (error : ScriptRefusal)
    → IsFed second left reader room → Takes left count buffer after
    → (error ≡ TooLong → room < length (take count buffer)) × ((error ≡ TooLong → ⊥) → error ≡ Memory)
    → IfSome second (λ text. LacksScript text error)
piece_refused second left reader room buffer count after Failed fed taken why = nothing_told second
piece_refused second left reader room buffer count after Memory fed taken why = nothing_told second
piece_refused second left reader room buffer count after (Syntax line) fed taken why = absurd (cc (why.1 (λ h. cc h)))
piece_refused second left reader room buffer count after TooLong fed taken why =
    subst (λ s. IfSome s (λ text. second_limit < length text)) (sym fed.whole)
    (too_long left fed.text room buffer count after taken fed.size (why.0 refl))
