-- The command is one of which clap says exactly what it takes and gives.
use Rattle.std.proofs.Common.{◌≡◌, ◌∙◌, ap, true, refl, List, [], Option, Some, subst, inl, inr}
use Rattle.std.specs.Prelude.{MatchOption}
use Rattle.clap.specs.declared.parser.matches.ArgMatches.{ArgMatches}
use Rattle.clap.specs.declared.parser.matches.Found.{Found}
use Rattle.clap.specs.Words.{first_of, first_value, found_of, matches_of, rows_of, Text, IsAmong, Kinds, HasKind, is_simple, is_simple_and_free, kind_of}
use Rattle.clap.specs.declared.error.Error.{Error}
use Rattle.clap.specs.declared.error.ErrorKind.TheVariants.{OutOfMemory}
use Rattle.vsa_words.specs.Command.{AreTaken, command, given}
use Rattle.clap.proofs.WalkLemmas.{first_value-rows}

pub command_is_simple : is_simple command ≡ true
unfolding command
command_is_simple = refl

pub command_is_free : is_simple_and_free command ≡ true
unfolding command
command_is_free = refl

-- an error that isn't want of memory comes only where some error may
pub not_taken : (kinds : Kinds) (e : Error) → (kind_of e ≡ OutOfMemory → ⊥) → HasKind kinds e → kinds ≡ [] → ⊥
not_taken kinds e other (inl memory) none = other memory
not_taken kinds e other (inr among) none = let never : ⊥ = subst (IsAmong (kind_of e)) none among in never

-- the text that is read of a name is the one that the words give
pub given_is : (words : List Text) (f : Found) → rows_of f ≡ matches_of command words
    → (id : Text) (text : Option Text) → text ≡ first_value f id → text ≡ given words id
given_is words f rows id text is = is ∙ first_value-rows f id ∙ ap (first_of id) rows

abbrev pub IsMatched : List Text → Option ArgMatches → Type 0
IsMatched words found =
    MatchOption found (AreTaken words → ⊥) (λ (m : ArgMatches). AreTaken words × (rows_of (found_of m) ≡ matches_of command words))

pub matched : (words : List Text) (found : Option ArgMatches) (m : ArgMatches) → found ≡ Some m → IsMatched words found
    → AreTaken words × (rows_of (found_of m) ≡ matches_of command words)
matched words found m is has = subst (IsMatched words) is has
