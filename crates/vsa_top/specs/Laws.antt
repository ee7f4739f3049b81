-- What answers need of a chip with its program: each law is said once, and both chips have it.
use Rattle.std.specs.Prelude.{◌≡◌, ◌↔◌, ℕ, ◌≤◌, Bool, true, false, Option, List, []}
use Rattle.analysis_limits.specs.declared.limits.Limits.{Limits}
use Rattle.assert_check.specs.Holding.{Holds}
use Rattle.assert_check.specs.declared.assertion.Assertion.{Assertion}
use Rattle.book_rules.specs.Kept.{nodes_of}
use Rattle.book_rules.specs.Machine.{replay, IsClosed, IsFinished, IsLegalJournal}
use Rattle.book_rules.specs.declared.event.Event.{Event}
use Rattle.call_context.specs.declared.node.Node.{Node}
use Rattle.cert_text.specs.Writing.{IsCert}
use Rattle.cert_verdict.specs.Verdict.{IsVerdict}
use Rattle.chip_analysis.specs.Analysis.{Analysis}
use Rattle.chip_law.specs.Machine.{Machine}
use Rattle.image.specs.Kept.{IsRamRange, IsReadUnder}
use Rattle.report_bytes.specs.Report.{are_closed, last_works, report_of_journal}
use Rattle.report_text.specs.Promise.{BoundsStack, CoversEveryRun, ShowsOpenSites}
use Rattle.state_text.specs.Texts.{StateTexts}
use Rattle.vsa_top.specs.Asserted.{broken_in}
use Rattle.vsa_top.specs.Certified.{IsClosedCert}
use Rattle.vsa_top.specs.Family.{family_of}
use Rattle.vsa_words.specs.Words.{EndsInMemory, target_rules}
use Rattle.vsa_words.specs.declared.reading.Target.{Target}
use Rattle.worker_rounds.specs.Turns.{FinishesAlone}

-- an image that is analysed was read under its rules, and the words bound its RAM and the call strings
pub record IsGiven (target : Target) (limits : Limits) (image : List (Option ℕ)) : Type 0 where
  pub read : IsReadUnder (target_rules target) image
  pub ram : IsRamRange (target_rules target)
  pub top : EndsInMemory (target_rules target)
  pub calls : limits.calls ≤ 8

-- what reports and certificates say of a program that the words may give
pub record AreTrue {S A : Type 0} (machine : Machine S) (analysis : Analysis A) (texts : StateTexts A)
    (text_of : ℕ → List ℕ → List ℕ) : Type 0 where
  -- the report of a finished book without opens covers every run
  pub covers : (journal : List Event) → IsLegalJournal analysis journal → IsFinished (replay analysis journal)
      → are_closed (last_works analysis journal) ≡ true
      → CoversEveryRun machine text_of (report_of_journal text_of analysis journal)
  -- and its `T` line bounds the stack of every run
  pub bounds : (journal : List Event) → IsLegalJournal analysis journal → IsFinished (replay analysis journal)
      → are_closed (last_works analysis journal) ≡ true
      → BoundsStack machine (report_of_journal text_of analysis journal)
  -- that of another shows its open sites
  pub shows : (journal : List Event) → IsLegalJournal analysis journal → IsFinished (replay analysis journal)
      → are_closed (last_works analysis journal) ≡ false
      → ShowsOpenSites analysis journal (report_of_journal text_of analysis journal)
  -- assertions of which a finished book without opens breaks none hold of every run
  pub holds : (list : List (ℕ × Assertion)) (journal : List Event) → IsLegalJournal analysis journal
      → IsFinished (replay analysis journal) → are_closed (last_works analysis journal) ≡ true
      → broken_in text_of analysis list journal ≡ [] → Holds machine list
  -- the report that is told of a certificate's closed table covers every run
  pub certifies : (text told : List ℕ) → IsVerdict text_of analysis texts text true told → CoversEveryRun machine text_of told
  -- a text has such a verdict exactly where it is the certificate of a closed table
  pub closes : (text told : List ℕ) → IsVerdict text_of analysis texts text true told → IsClosedCert analysis texts text
  pub accepts : (text : List ℕ) → IsClosedCert analysis texts text → (told : List ℕ) × IsVerdict text_of analysis texts text true told
  -- the certificate of a closed book has the book's own report as its verdict
  pub owns : (journal : List Event) (text : List ℕ) → IsLegalJournal analysis journal → IsClosed (replay analysis journal)
      → IsCert analysis texts (nodes_of (replay analysis journal)) text
      → IsVerdict text_of analysis texts text true (report_of_journal text_of analysis journal)

-- what there is one of, whatever the program
pub record AreOne {A : Type 0} (analysis : Analysis A) (texts : StateTexts A) (text_of : ℕ → List ℕ → List ℕ) : Type 0 where
  -- a finished book without opens is a closed one
  pub told : (journal : List Event) → IsLegalJournal analysis journal → IsFinished (replay analysis journal)
      → (are_closed (last_works analysis journal) ≡ true) ↔ IsClosed (replay analysis journal)
  pub journal : (one other : List Event) → FinishesAlone analysis one → FinishesAlone analysis other → one ≡ other
  pub certificate : (nodes : List (Node × A)) (one other : List ℕ) → IsCert analysis texts nodes one
      → IsCert analysis texts nodes other → one ≡ other
  pub verdict : (text : List ℕ) (one other : Bool) (told also : List ℕ) → IsVerdict text_of analysis texts text one told
      → IsVerdict text_of analysis texts text other also → (one ≡ other) × (told ≡ also)

-- both, of a chip with an image under limits
abbrev pub AreTrueOf : Target → Limits → (image : List (Option ℕ)) → Type 0
AreTrueOf target limits image = let f = family_of target image in AreTrue f.machine (f.analysis limits) f.texts f.text_of

abbrev pub AreOneOf : Target → Limits → (image : List (Option ℕ)) → Type 0
AreOneOf target limits image = let f = family_of target image in AreOne (f.analysis limits) f.texts f.text_of
