-- The certificate that an analysis writes behind its report.
use Rattle.std.specs.Prelude.{◌≡◌, true, false, ◌++◌, ℕ, Option, Some, List}
use Rattle.analysis_limits.specs.declared.limits.Limits.{Limits}
use Rattle.image.specs.declared.tail.Tail.TheVariants.{Blank}
use Rattle.ihex_read.specs.ImageText.{Denotes}
use Rattle.text_lines.specs.Lines as texts
use Rattle.book_rules.specs.declared.event.Event.{Event}
use Rattle.streams.specs.Stream.{appended}
use Rattle.vsa_top.specs.Answer.{IsReportedOn}
use Rattle.vsa_top.specs.Headline.{CoversRunsOf}
use Rattle.vsa_top.specs.declared.outcome.Status.{Status}
use Rattle.vsa_top.specs.declared.outcome.Status.TheVariants.{Done}
use Rattle.vsa_words.specs.declared.reading.Target.{Target}
use Rattle.vsa_words.specs.declared.reading.Task.{Task}
use Rattle.vsa_words.specs.Words.{target_rules}

-- An analysis of this image under these limits, by however many workers, replies Done with this report, and with this
-- certificate behind it where one is asked for.
pub record IsOwn (target : Target) (limits : Limits) (image : List (Option ℕ))
    (report certificate : List ℕ) : Type 0 where
  pub workers : ℕ
  pub journal : List Event
  pub reported : IsReportedOn target limits workers false image Done report journal
  pub certified : IsReportedOn target limits workers true image Done (report ++ certificate) journal

-- Where the input is told and denotes an image of the chip, the sink got a report that covers every run of the chip with this
-- image, and its own certificate behind it.
abbrev pub WritesOwn : Task → (input before after : Option (List ℕ)) → Type 0
WritesOwn task input before after =
    (text : List ℕ) (image : List (Option ℕ)) → input ≡ Some text
    → Denotes (target_rules task.target) Blank (texts.lines_of text) image
    → (report : List ℕ) × (certificate : List ℕ) × (after ≡ appended before (report ++ certificate))
    × IsOwn task.target task.limits image report certificate × CoversRunsOf task.target image report

-- the answer is Done with this report
abbrev pub TellsReport : Status → (before after : Option (List ℕ)) → (report : List ℕ) → Type 0
TellsReport answered before after report = (answered ≡ Done) × (after ≡ appended before report)
