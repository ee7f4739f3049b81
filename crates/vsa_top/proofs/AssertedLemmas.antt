-- What is answered to assertions, put together from the book, and from the text behind the image text.
use Rattle.std.proofs.Common.{◌≡◌, ◌++◌, ◌<◌, ◌≤◌, ℕ, Bool, true, false, Option, None, Some, List, refl, sym, ap, subst, ◌∙◌, inl, inr, arith, length, length-append}
use Rattle.std.specs.Prelude.{IfSome, flat_map}
use Rattle.std.specs.Map.{values_of}
use Rattle.std.proofs.lemmas.Bool.{cases_Bool}
use Rattle.std.proofs.lemmas.List.{append-nil}
use Rattle.assert_check.specs.Assertions.{broken_of}
use Rattle.assert_check.specs.Lines.{Tells}
use Rattle.assert_check.specs.declared.assertion.Assertion.{Assertion}
use Rattle.assert_check.specs.declared.lines.AssertError.{AssertError}
use Rattle.assert_check.specs.declared.lines.AssertError.TheVariants as assert_error
use Rattle.call_context.specs.declared.node.Unit.{Unit as WorkUnit}
use Rattle.chip_analysis.specs.Analysis.{Analysis}
use Rattle.item_lines.specs.Line.{item_line_of}
use Rattle.chip_analysis.specs.declared.chip.Work.{Work}
use Rattle.chip_numbers.specs.declared.space.Space.{Space}
use Rattle.report_bytes.specs.Report.{IsReportOf, are_closed, last_works, report_of}
use Rattle.closed_book.specs.Bounded.{AreBounded}
use Rattle.book_rules.specs.Kept.{live_pairs}
use Rattle.book_rules.specs.Machine.{replay, IsClosed}
use Rattle.book_rules.specs.declared.event.Event.{Event}
use Rattle.streams.specs.Stream.{IsAtEnd}
use Rattle.vsa_top.specs.Answer.{IsAnalysis, IsDecided}
use Rattle.vsa_top.specs.Answer.IsDecided.{decided, reported}
use Rattle.vsa_top.specs.Asserted.{LacksAssertions, broken_text, refusal_of, status_of_broken, unread_of}
use Rattle.vsa_top.specs.Input.{begun_with}
use Rattle.vsa_top.specs.Scripts.{second_limit}
use Rattle.vsa_top.specs.declared.outcome.Status.{Status}
use Rattle.vsa_top.specs.declared.outcome.Status.TheVariants as status
use Rattle.vsa_top.specs.declared.second.SecondError.{SecondError}
use Rattle.vsa_top.specs.declared.second.SecondError.TheVariants as second_error

-- BOOKS

-- what a closed book of these works breaks is what its journal's book breaks
pub decided_by : {A : Type 0} (text_of : ℕ → List ℕ → List ℕ) (m : Analysis A) (workers : ℕ) (list : List (ℕ × Assertion)) (journal told : List Event)
    (works : List (WorkUnit × Work A)) (replied : Status) (text : List ℕ) → IsAnalysis m workers journal → AreBounded m journal
    → are_closed (last_works m journal) ≡ true
    → works ≡ live_pairs (replay m journal)
    → replied ≡ status_of_broken (broken_of (item_line_of text_of) list (flat_map (λ (w : Work A). w.items) (values_of works)))
    → text ≡ broken_text (item_line_of text_of) (broken_of (item_line_of text_of) list (flat_map (λ (w : Work A). w.items) (values_of works)))
    → told ≡ journal → IsDecided text_of m workers list replied text told
decided_by {A = A} text_of m workers list journal told works replied text is bounded closed same status_is text_is journal_is =
    let line_of = item_line_of text_of in
    let broken = λ (ws : List (WorkUnit × Work A)). broken_of line_of list (flat_map (λ (w : Work A). w.items) (values_of ws)) in
    subst (IsDecided text_of m workers list replied text) (sym journal_is)
    (decided is bounded closed (status_is ∙ ap (λ ws. status_of_broken (broken ws)) same) (text_is ∙ ap (λ ws. broken_text line_of (broken ws)) same))

-- the report of a book that isn't closed
pub reported_by : {A : Type 0} (text_of : ℕ → List ℕ → List ℕ) (m : Analysis A) (workers : ℕ) (list : List (ℕ × Assertion)) (journal told : List Event)
    (report : List ℕ) (is_closed : Bool) → IsAnalysis m workers journal → AreBounded m journal → (IsClosed (replay m journal) → ⊥)
    → (are_closed (last_works m journal) ≡ true → IsClosed (replay m journal)) → IsReportOf text_of (replay m journal) report is_closed
    → told ≡ journal → IsDecided text_of m workers list status.Open report told
reported_by text_of m workers list journal told report is_closed is bounded open_book closes reported_is journal_is =
    let finished : reported_is.finished ≡ true = reported_is.is_finished.1 is.finished in
    let left : are_closed (last_works m journal) ≡ false = elim (cases_Bool (are_closed (last_works m journal))) [
      | inl closed ↦ absurd (open_book (closes closed))
      | inr left ↦ left
    ] in
    subst (IsDecided text_of m workers list status.Open report) (sym journal_is)
    (reported is bounded left refl (reported_is.bytes ∙ ap (λ f. report_of text_of f (last_works m journal)) finished))

-- THE TEXT BEHIND

-- what holds of the text that was read, where it is the whole one
pub if_whole : (second : Option (List ℕ)) (text : List ℕ) (P : List ℕ → Type 0) → IfSome second (λ whole. whole ≡ text)
    → P text → IfSome second P
if_whole None text P same holds = tt
if_whole (Some whole) text P same holds = subst P (sym same) holds

-- a longer front makes a longer text
pub longer_whole : (text : List ℕ) (left : Option (List ℕ)) → second_limit < length text
    → IfSome (begun_with text left) (λ whole. second_limit < length whole)
longer_whole text None longer = tt
longer_whole text (Some left) longer = omega (arith, longer, length-append text left)

pub whole_at_end : (left : Option (List ℕ)) (text : List ℕ) → IsAtEnd left → IfSome (begun_with text left) (λ whole. whole ≡ text)
whole_at_end None text end = tt
whole_at_end (Some left) text end = ap (λ more. text ++ more) end ∙ append-nil text

lacks : (spaces : List Space) (text : List ℕ) (error : AssertError) → length text ≤ second_limit → Tells spaces text error
    → LacksAssertions spaces text (refusal_of error)
lacks spaces text (assert_error.Syntax line) fits tells = record { fits = fits; refused = tells }
lacks spaces text assert_error.Memory fits tells = tt

pub lacks_whole : (spaces : List Space) (second : Option (List ℕ)) (text : List ℕ) (error : AssertError)
    → IfSome second (λ whole. whole ≡ text)
    → length text ≤ second_limit → Tells spaces text error → IfSome second (λ t. LacksAssertions spaces t (refusal_of error))
lacks_whole spaces second text error same fits tells = if_whole second text (λ t. LacksAssertions spaces t (refusal_of error)) same (lacks spaces text error fits tells)

nothing_told : (second : Option (List ℕ)) → IfSome second (λ text. Unit {0})
nothing_told None = tt
nothing_told (Some text) = tt

-- what is told of a text that isn't read
pub lacks_unread : (spaces : List Space) (second : Option (List ℕ)) (error : SecondError)
    → (error ≡ second_error.TooLong → IfSome second (λ whole. second_limit < length whole))
    → IfSome second (λ t. LacksAssertions spaces t (unread_of error))
lacks_unread spaces second second_error.Failed long = nothing_told second
lacks_unread spaces second second_error.Memory long = nothing_told second
lacks_unread spaces second second_error.TooLong long = long refl
