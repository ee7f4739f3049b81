-- What one worker answers is a function of the words and the input.
use Rattle.std.specs.Prelude.{◌≡◌, ◌⊎◌, ℕ, Option, List}
use Rattle.streams.specs.Stream.{appended}
use Rattle.book_rules.specs.declared.event.Event.{Event}
use Rattle.image.specs.declared.chip_name.ChipName.{ChipName}
use Rattle.vsa_top.specs.declared.outcome.Status.{Status}
use Rattle.vsa_top.specs.declared.outcome.Status.TheVariants as status
use Rattle.vsa_words.specs.declared.reading.Reading.{Reading}
use Rattle.vsa_words.specs.declared.reading.Reading.TheVariants.{Analyse, Assert, Gen}
use Rattle.vsa_words.specs.declared.reading.Task.{Task}
use Rattle.vsa_top.specs.Answer.{IsReply}

-- one worker analyses the image of the input, perhaps under assertions, or a made program
pub data WorksAlone : Reading → Type 0 where
  of_input : (task : Task) → task.workers ≡ 1 → WorksAlone (Analyse task)
  of_asserted : (task : Task) → task.workers ≡ 1 → WorksAlone (Assert task)
  of_made : (chip : ChipName) (number : ℕ) → WorksAlone (Gen chip number)

-- the statuses of an analysis
abbrev pub TellsAnalysis : Status → Type 0
TellsAnalysis answered = (answered ≡ status.Done) ⊎ (answered ≡ status.Open) ⊎ (answered ≡ status.Broken)

-- The answer is this reply to the input, as a whole, and no other reply to it tells an analysis.
pub record IsOneReply (reading : Reading) (input : Option (List ℕ)) (answered : Status) (before after : Option (List ℕ)) (journal : List Event) : Type 0 where
  pub text : List ℕ
  pub reply : IsReply reading input answered text journal
  pub written : after ≡ appended before text
  pub alone : (other : Status) (report : List ℕ) (events : List Event) → TellsAnalysis other → IsReply reading input other report events
      → (other ≡ answered) × (report ≡ text) × (events ≡ journal)
