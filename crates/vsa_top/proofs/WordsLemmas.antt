-- What holds of the reading that was found, and so of each that the words are.
use Rattle.std.proofs.Common.{◌≡◌, List, Option, None, Some, subst, sym}
use Rattle.std.specs.Prelude.{ℕ, IfNone, IfSome}
use Rattle.std.specs.declared.string.String.{String}
use Rattle.std.specs.declared.alloc.Global.{Global}
use Rattle.image.specs.Kept.{IsRamRange}
use Rattle.book_rules.specs.declared.event.Event.{Event}
use Rattle.vsa_words.specs.Words.{EndsInMemory, IsBounded, Reads, rules_of}
use Rattle.vsa_words.specs.declared.reading.Reading.{Reading}
use Rattle.vsa_top.specs.Answer.{Answers}
use Rattle.vsa_top.specs.declared.outcome.Status.{Status}

pub some_of : {A : Type 0} (found : Option A) (a : A) (P : A → Type 0) → found ≡ Some a → IfSome found P → P a
some_of found a P is holds = subst (λ f. IfSome f P) is holds

pub none_of : {A : Type 0} (found : Option A) (P : Type 0) → found ≡ None → IfNone found P → P
none_of found P is holds = subst (λ f. IfNone f P) is holds

-- what is known of a reading that is answered
pub record IsRead (status : Status) (input before after : Option (List ℕ)) (journal : List Event) (reading : Reading) : Type 0 where
  pub range : IsRamRange (rules_of reading)
  pub end : EndsInMemory (rules_of reading)
  pub bounded : IsBounded reading
  pub answer : Answers reading status input before after journal

pub read_as : {words : List (String Global)} {status : Status} {input before after : Option (List ℕ)} {journal : List Event} {found : Option Reading}
    {reading : Reading} → found ≡ Some reading → IfSome found (λ r. (other : Reading) → Reads words other → other ≡ r)
    → IfSome found (λ r. IsRamRange (rules_of r)) → IfSome found (λ r. EndsInMemory (rules_of r)) → IfSome found IsBounded
    → Answers reading status input before after journal → (other : Reading) → Reads words other
    → IsRead status input before after journal other
read_as {words} {status} {input} {before} {after} {journal} {found} {reading} is alone range end bounded answer other reads =
    let same = some_of found reading (λ r. (o : Reading) → Reads words o → o ≡ r) is alone other reads in
    subst (IsRead status input before after journal) (sym same) record {
      range = some_of found reading (λ r. IsRamRange (rules_of r)) is range;
      end = some_of found reading (λ r. EndsInMemory (rules_of r)) is end;
      bounded = some_of found reading IsBounded is bounded;
      answer = answer;
    }

-- an answer with the status that is told
pub as_told : {reading : Reading} {status told : Status} {input before after : Option (List ℕ)} {journal : List Event} → status ≡ told
    → Answers reading status input before after journal → Answers reading told input before after journal
as_told {reading} {status} {told} {input} {before} {after} {journal} is answer = subst (λ s. Answers reading s input before after journal) is answer
