-- The reply to a program that is analysed, put together from the book and its report.
use Rattle.std.proofs.Common.{◌≡◌, ◌<◌, ℕ, Bool, true, Option, None, List, [], ◌∷◌, ap, arith, ◌∙◌, All}
use Rattle.std.proofs.lemmas.List.Elements.{All-cons, All-nil}
use Rattle.std.specs.Prelude.{◌&&◌, IfOk, Result, Ok, Err}
use Rattle.chip_analysis.specs.Analysis.{Analysis}
use Rattle.closed_book.specs.Bounded.{AreBounded}
use Rattle.book_rules.specs.declared.event.Event.{Event}
use Rattle.book_rules.specs.declared.event.Event.TheVariants.{Claim, Post, GiveBack}
use Rattle.book_rules.specs.Counts.{seat_of}
use Rattle.book_rules.specs.Machine.{replay, IsFinished, IsLegalJournal}
use Rattle.worker_rounds.specs.Turns.{AreTurns}
use Rattle.image.specs.declared.chip_name.ChipName.{ChipName}
use Rattle.report_bytes.specs.Deepest.{deepest_of}
use Rattle.report_bytes.specs.Report.{IsReportOf, are_closed, counts_of, items_of, last_works, report_of, reported_lines}
use Rattle.report_bytes.specs.declared.deepest.Deepest.{Deepest}
use Rattle.report_bytes.specs.declared.lines.Counts.{Counts}
use Rattle.vsa_top.specs.declared.outcome.Status.{Status}
use Rattle.state_text.specs.Texts.{StateTexts}
use Rattle.vsa_top.specs.Answer.{IsAnalysed, IsAnalysis, IsFollowed, IsReported, IsSummary, status_of_analysis}
use Rattle.vsa_top.specs.Summary.{summary}

-- the events of one worker alone are of seat 0
turns_below : (journal : List Event) → AreTurns journal → All (λ event. seat_of event < 1) journal
turns_below [] turns = All-nil (λ event. seat_of event < 1)
turns_below (Claim seat unit ∷ Post other posted ∷ events) turns =
    All-cons (λ event. seat_of event < 1) (Claim seat unit) (Post other posted ∷ events) (omega (arith, turns.0))
    (All-cons (λ event. seat_of event < 1) (Post other posted) events (omega (arith, turns.1)) (turns_below events turns.3))
turns_below (Claim seat unit ∷ []) turns = absurd turns
turns_below (Claim seat unit ∷ Claim other taken ∷ events) turns = absurd turns
turns_below (Claim seat unit ∷ GiveBack other taken ∷ events) turns = absurd turns
turns_below (Post seat unit ∷ events) turns = absurd turns
turns_below (GiveBack seat unit ∷ events) turns = absurd turns

pub alone_is : {A : Type 0} (m : Analysis A) (journal : List Event) → IsLegalJournal m journal
    → IsFinished (replay m journal) → AreTurns journal
    → IsAnalysis m 1 journal
alone_is m journal legal finished turns = record { legal = legal; finished = finished; seats = turns_below journal turns; alone = λ one. turns }

pub analysed_by : {A : Type 0} (text_of : ℕ → List ℕ → List ℕ) (m : Analysis A) (workers : ℕ) (journal : List Event) (report : List ℕ) (is_closed : Bool)
    (replied : Status) → IsAnalysis m workers journal → AreBounded m journal → IsReportOf text_of (replay m journal) report is_closed
    → replied ≡ status_of_analysis is_closed
    → IsAnalysed text_of m workers replied report journal
analysed_by text_of m workers journal report is_closed replied is bounded reported told =
    let finished : reported.finished ≡ true = reported.is_finished.1 is.finished in
    let closes : is_closed ≡ are_closed (last_works m journal) = reported.says ∙ ap (λ f. f && are_closed (last_works m journal)) finished in record {
      is_analysis = is;
      bounded = bounded;
      status_is = told ∙ ap status_of_analysis closes;
      text_is = reported.bytes ∙ ap (λ f. report_of text_of f (last_works m journal)) finished;
    }

-- the report of a program, with what follows it
pub reported_by : {A : Type 0} (text_of : ℕ → List ℕ → List ℕ) (m : Analysis A) (texts : StateTexts A) (workers : ℕ) (cert : Bool) (journal : List Event)
    (report text : List ℕ) (is_closed : Bool) (replied : Status) → IsAnalysis m workers journal → AreBounded m journal
    → IsReportOf text_of (replay m journal) report is_closed → replied ≡ status_of_analysis is_closed
    → IsFollowed m texts cert journal report text
    → IsReported text_of m texts workers cert replied text journal
reported_by text_of m texts workers cert journal report text is_closed replied is bounded reported told followed = record {
  report = report;
  analysed = analysed_by text_of m workers journal report is_closed replied is bounded reported told;
  followed = followed;
}

-- the summary of a made program, put together from the book and what its report tells
pub summary_by : {A : Type 0} (text_of : ℕ → List ℕ → List ℕ) (m : Analysis A) (chip : ChipName) (number : ℕ) (journal : List Event)
    (report text : List ℕ) (is_closed : Bool) (deepest : Option Deepest) (counts : Counts) (replied : Status)
    → IsAnalysis m 1 journal → AreBounded m journal → IsReportOf text_of (replay m journal) report is_closed
    → replied ≡ status_of_analysis is_closed → deepest ≡ deepest_of None (items_of (last_works m journal))
    → counts ≡ counts_of (reported_lines text_of (last_works m journal)) → text ≡ summary chip number is_closed deepest counts
    → IsSummary text_of m chip number replied text journal
summary_by text_of m chip number journal report text is_closed deepest counts replied is bounded reported told deepest_is counts_are text_is =
    let works = last_works m journal in
    let finished : reported.finished ≡ true = reported.is_finished.1 is.finished in
    let closes : is_closed ≡ are_closed works = reported.says ∙ ap (λ f. f && are_closed works) finished in (
      report,
      analysed_by text_of m 1 journal report is_closed replied is bounded reported told,
      text_is ∙ ap (λ b. summary chip number b deepest counts) closes
          ∙ ap (λ d. summary chip number (are_closed works) d counts) deepest_is
          ∙ ap (summary chip number (are_closed works) (deepest_of None (items_of works))) counts_are,
    )

-- what holds of each reply by two facts
pub if_both : {A E : Type 0} (r : Result A E) (P Q R : A → Type 0) → ((a : A) → P a → Q a → R a) → IfOk r P → IfOk r Q → IfOk r R
if_both (Ok a) P Q R each p q = each a p q
if_both (Err e) P Q R each p q = tt

pub if_ok : {A E : Type 0} (r : Result A E) (P Q : A → Type 0) → ((a : A) → P a → Q a) → IfOk r P → IfOk r Q
if_ok (Ok a) P Q each p = each a p
if_ok (Err e) P Q each p = tt

pub if_all : {A E : Type 0} (r : Result A E) (P Q R S : A → Type 0) → ((a : A) → P a → Q a → R a → S a) → IfOk r P
    → IfOk r Q → IfOk r R → IfOk r S
if_all (Ok a) P Q R S each p q t = each a p q t
if_all (Err e) P Q R S each p q t = tt
