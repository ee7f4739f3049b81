-- What a report says of every run of the chip whose image the input denotes.
use Rattle.std.specs.Prelude.{◌≡◌, ℕ, Option, Some, Ok, List}
use Rattle.analysis_limits.specs.declared.limits.Limits.{Limits}
use Rattle.image.specs.declared.tail.Tail.TheVariants.{Blank, Second}
use Rattle.ihex_read.specs.ImageText.{Denotes}
use Rattle.text_lines.specs.Lines as texts
use Rattle.streams.specs.Stream.{appended}
use Rattle.book_rules.specs.declared.event.Event.{Event}
use Rattle.report_text.specs.Promise.{BoundsStack, CoversEveryRun, ShowsOpenSites}
use Rattle.assert_check.specs.Lines.{assertions_of}
use Rattle.assert_check.specs.declared.assertion.Assertion.{Assertion}
use Rattle.vsa_top.specs.Answer.{IsFollowed}
use Rattle.vsa_top.specs.Asserted.{HoldOn, spaces_of}
use Rattle.vsa_top.specs.Certified.{IsClosedCertOf}
use Rattle.vsa_top.specs.Family.{family_of}
use Rattle.vsa_top.specs.Input.{Gives}
use Rattle.vsa_words.specs.declared.reading.Target.{Target}
use Rattle.vsa_words.specs.declared.reading.Task.{Task}
use Rattle.vsa_words.specs.Words.{target_rules}

-- the report covers every run of the chip with this image
abbrev pub CoversRunsOf : Target → (image : List (Option ℕ)) → (report : List ℕ) → Type 0
CoversRunsOf target image report = let f = family_of target image in CoversEveryRun f.machine f.text_of report

-- the `T` line of the report bounds the stack of every run of the chip with this image
abbrev pub BoundsStackOf : Target → (image : List (Option ℕ)) → (report : List ℕ) → Type 0
BoundsStackOf target image report = BoundsStack (family_of target image).machine report

-- the report shows the open sites of the chip's analysis under these limits, of the book that the journal leads to
abbrev pub ShowsSitesOf : Target → Limits → (image : List (Option ℕ)) → List Event → (report : List ℕ) → Type 0
ShowsSitesOf target limits image journal report = ShowsOpenSites ((family_of target image).analysis limits) journal report

-- The sink got the report, and behind it nothing, or the certificate of the book that the journal leads to, where one was
-- asked for.
pub record IsFirst (task : Task) (image : List (Option ℕ)) (journal : List Event) (before after : Option (List ℕ)) (report : List ℕ) : Type 0 where
  pub text : List ℕ
  pub followed : (let f = family_of task.target image in IsFollowed (f.analysis task.limits) f.texts task.cert journal report text)
  pub held : after ≡ appended before text

-- Where the input is told and denotes an image of the chip with its RAM, the sink got a report of which P holds, with this
-- image, and perhaps a certificate behind it.
abbrev pub ReportsOn : Task → (input before after : Option (List ℕ)) → List Event → (List (Option ℕ) → List ℕ → Type 0) → Type 0
ReportsOn task input before after journal P = (text : List ℕ) (image : List (Option ℕ)) → input ≡ Some text
    → Denotes (target_rules task.target) Blank (texts.lines_of text) image
    → (report : List ℕ) × IsFirst task image journal before after report × P image report

-- Where the input is told, it gives an image of the chip with assertions behind it, and they hold of every run.
abbrev pub HoldsOf : Target → (input : Option (List ℕ)) → Type 0
HoldsOf target input = (text : List ℕ) → input ≡ Some text
    → (image : List (Option ℕ)) × (second : List ℕ) × (list : List (ℕ × Assertion))
    × Gives (target_rules target) Second text image second × (assertions_of (spaces_of target) second ≡ Ok list)
    × HoldOn target image list

-- Where the input is told, it gives an image of the chip with a second text behind it, and the sink got a report of which P
-- holds, with these two.
abbrev pub ReportsUnder : Target → (input before after : Option (List ℕ)) → (List (Option ℕ) → (second report : List ℕ) → Type 0) → Type 0
ReportsUnder target input before after P = (text : List ℕ) → input ≡ Some text
    → (image : List (Option ℕ)) × (second : List ℕ) × (report : List ℕ) × Gives (target_rules target) Second text image second
    × (after ≡ appended before report) × P image second report

-- The second text is the certificate of a closed table, and the report covers every run of the chip with this image.
abbrev pub CertifiesOn : Task → (input before after : Option (List ℕ)) → Type 0
CertifiesOn task input before after = ReportsUnder task.target input before after
    (λ image certificate report. IsClosedCertOf task.target task.limits image certificate × CoversRunsOf task.target image report)

-- The report shows the open sites of the book that the journal leads to.
abbrev pub LeavesOpen : Task → (input before after : Option (List ℕ)) → List Event → Type 0
LeavesOpen task input before after journal = ReportsUnder task.target input before after
    (λ image assertions report. ShowsSitesOf task.target task.limits image journal report)
