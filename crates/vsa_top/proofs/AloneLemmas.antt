-- The reply that tells one worker's analysis is one alone.
use Rattle.std.proofs.Common.{◌≡◌, ◌++◌, Bool, true, false, ap₂, ℕ, Option, Some, List, refl, sym, ap, ◌∙◌, subst, inl, inr}
use Rattle.image.specs.declared.tail.Tail.TheVariants.{Blank, Second}
use Rattle.book_rules.specs.declared.event.Event.{Event}
use Rattle.analysis_limits.specs.declared.limits.Limits.{Limits}
use Rattle.call_context.specs.declared.node.Node.{Node}
use Rattle.cert_text.specs.Writing.{IsCert}
use Rattle.chip_analysis.specs.Analysis.{Analysis}
use Rattle.book_rules.specs.Kept.{nodes_of}
use Rattle.book_rules.specs.Machine.{replay}
use Rattle.state_text.specs.Texts.{StateTexts}
use Rattle.worker_rounds.specs.Turns.{FinishesAlone}
use Rattle.report_bytes.specs.Report.{are_closed, last_works, report_of_journal}
use Rattle.vsa_top.specs.declared.outcome.Status.{Status}
use Rattle.vsa_top.specs.declared.outcome.Status.TheVariants as status
use Rattle.vsa_words.specs.declared.reading.Reading.{Reading}
use Rattle.vsa_words.specs.declared.reading.Target.{Target}
use Rattle.vsa_top.specs.Alone.{IsOneReply, TellsAnalysis, WorksAlone}
use Rattle.vsa_top.specs.Alone.WorksAlone.{of_input, of_asserted, of_made}
use Rattle.vsa_top.specs.Answer.{Answers, IsAnalysis, IsDecided, IsAnalysed, IsAnalysedOn, IsFollowed, IsImageReply, IsReply, IsReported, IsReportedOn, TellsNoFault, status_of_analysis, summary_of_journal}
use Rattle.vsa_top.specs.Answer.IsReply.{of_image, of_bad, of_long}
use Rattle.vsa_top.specs.Input.{InputGives, input_of}
use Rattle.vsa_top.specs.Family.{family_of}
use Rattle.vsa_top.specs.Asserted.{AreAsserted, broken_in, broken_text, spaces_of, status_of_broken}
use Rattle.assert_check.specs.declared.assertion.Assertion.{Assertion}
use Rattle.chip_numbers.specs.declared.space.Space.{Space}
use Rattle.item_lines.specs.Line.{item_line_of}
use Rattle.image.specs.declared.rule_set.Rules.{Rules}
use Rattle.image.specs.declared.tail.Tail.{Tail}
use Rattle.std.specs.Prelude.{IfSome}
use Rattle.vsa_words.specs.declared.reading.Task.{Task}
use Rattle.vsa_top.specs.Answer.IsAsserted.{asserted, unread, overlong}
use Rattle.vsa_top.specs.Answer.IsDecided.{reported, decided}
use Rattle.vsa_words.specs.Words.{rules_of, usual_task, tail_of}
use Rattle.vsa_top.proofs.CheckedLemmas.{one_pair}
use Rattle.vsa_top.proofs.LawsLemmas.{HaveOnes}
use Rattle.vsa_top.proofs.HeadlineLemmas.{HaveOneImage, IsAssertedOn, IsDecidedOn, gives_reply}

-- two replies are the same
abbrev AreSame : Status → List ℕ → List Event → Status → List ℕ → List Event → Type 0
AreSame other report events answered text journal = (other ≡ answered) × (report ≡ text) × (events ≡ journal)

alone_made : {A : Type 0} (m : Analysis A) (workers : ℕ) (journal : List Event) → workers ≡ 1 → IsAnalysis m workers journal → FinishesAlone m journal
alone_made m workers journal alone is = record { turns = is.alone alone; legal = is.legal; finished = is.finished }

analysed_same : {A : Type 0} (text_of : ℕ → List ℕ → List ℕ) (m : Analysis A) (workers : ℕ)
    → ((one other : List Event) → FinishesAlone m one → FinishesAlone m other → one ≡ other)
    → workers ≡ 1 → (other : Status) (report : List ℕ) (events : List Event) (answered : Status) (text : List ℕ) (journal : List Event)
    → IsAnalysed text_of m workers other report events → IsAnalysed text_of m workers answered text journal
    → AreSame other report events answered text journal
analysed_same text_of m workers one alone other report events answered text journal that this =
    let same : events ≡ journal = one events journal (alone_made m workers events alone that.is_analysis)
    (alone_made m workers journal alone this.is_analysis) in (
      that.status_is ∙ ap (λ j. status_of_analysis (are_closed (last_works m j))) same ∙ sym this.status_is,
      that.text_is ∙ ap (report_of_journal text_of m) same ∙ sym this.text_is,
      same,
    )

on_same : HaveOnes
    → (target : Target) (limits : Limits) (workers : ℕ) (image : List (Option ℕ)) → workers ≡ 1
    → (other : Status) (report : List ℕ) (events : List Event) (answered : Status) (text : List ℕ) (journal : List Event)
    → IsAnalysedOn target limits workers image other report events → IsAnalysedOn target limits workers image answered text journal
    → AreSame other report events answered text journal
on_same ones target limits workers image alone =
    let f = family_of target image in analysed_same f.text_of (f.analysis limits) workers (ones target limits image).journal alone

-- WITH A CERTIFICATE

followed_same : {A : Type 0} (m : Analysis A) (texts : StateTexts A) (cert : Bool) → ((nodes : List (Node × A)) (one other : List ℕ)
    → IsCert m texts nodes one → IsCert m texts nodes other → one ≡ other)
    → (report text : List ℕ) (events : List Event) (also told : List ℕ) (journal : List Event) → report ≡ also → events ≡ journal
    → IsFollowed m texts cert events report text → IsFollowed m texts cert journal also told → text ≡ told
followed_same m texts false one report text events also told journal same journal_is that this = that ∙ same ∙ sym this
followed_same m texts true one report text events also told journal same journal_is that this =
    let here = subst (λ j. IsCert m texts (nodes_of (replay m j)) that.0) journal_is that.1 in
    that.2 ∙ ap₂ (λ (r c : List ℕ). r ++ c) same (one (nodes_of (replay m journal)) that.0 this.0 here this.1) ∙ sym this.2

reported_same : {A : Type 0} (text_of : ℕ → List ℕ → List ℕ) (m : Analysis A) (texts : StateTexts A) (workers : ℕ) (cert : Bool)
    → ((one other : List Event) → FinishesAlone m one → FinishesAlone m other → one ≡ other)
    → ((nodes : List (Node × A)) (one other : List ℕ) → IsCert m texts nodes one → IsCert m texts nodes other → one ≡ other)
    → workers ≡ 1 → (other : Status) (written : List ℕ) (events : List Event) (answered : Status) (text : List ℕ) (journal : List Event)
    → IsReported text_of m texts workers cert other written events → IsReported text_of m texts workers cert answered text journal
    → AreSame other written events answered text journal
reported_same text_of m texts workers cert one certs alone other written events answered text journal that this =
    let (status_is, report_is, journal_is) = analysed_same text_of m workers one alone other that.report events answered this.report journal
    that.analysed this.analysed in
    (status_is, followed_same m texts cert certs that.report written events this.report text journal report_is journal_is that.followed this.followed, journal_is)

told_same : HaveOnes
    → (target : Target) (limits : Limits) (workers : ℕ) (cert : Bool) (image : List (Option ℕ)) → workers ≡ 1
    → (other : Status) (written : List ℕ) (events : List Event) (answered : Status) (text : List ℕ) (journal : List Event)
    → IsReportedOn target limits workers cert image other written events
    → IsReportedOn target limits workers cert image answered text journal
    → AreSame other written events answered text journal
told_same ones target limits workers cert image alone =
    let f = family_of target image in
    let one = ones target limits image in
    reported_same f.text_of (f.analysis limits) f.texts workers cert one.journal one.certificate alone

-- THE STATUSES OF AN ANALYSIS

no_fault : (answered : Status) → TellsAnalysis answered → TellsNoFault answered
no_fault answered (inl done) = ((λ f. cc f), (λ f. cc f))
no_fault answered (inr (inl left)) = ((λ f. cc f), (λ f. cc f))
no_fault answered (inr (inr broken)) = ((λ f. cc f), (λ f. cc f))

has_room : (answered : Status) → TellsAnalysis answered → answered ≡ status.Memory → ⊥
has_room answered (inl done) e = absurd (cc)
has_room answered (inr (inl left)) e = absurd (cc)
has_room answered (inr (inr broken)) e = absurd (cc)

no_image : (answered : Status) → TellsAnalysis answered → answered ≡ status.BadImage → ⊥
no_image answered (inl done) e = absurd (cc)
no_image answered (inr (inl left)) e = absurd (cc)
no_image answered (inr (inr broken)) e = absurd (cc)

not_long : (answered : Status) → TellsAnalysis answered → answered ≡ status.TooLong → ⊥
not_long answered (inl done) e = absurd (cc)
not_long answered (inr (inl left)) e = absurd (cc)
not_long answered (inr (inr broken)) e = absurd (cc)

-- UNDER ASSERTIONS

decided_same : {A : Type 0} (text_of : ℕ → List ℕ → List ℕ) (m : Analysis A) (workers : ℕ) (list : List (ℕ × Assertion))
    → ((one other : List Event) → FinishesAlone m one → FinishesAlone m other → one ≡ other)
    → workers ≡ 1 → (other : Status) (report : List ℕ) (events : List Event) (answered : Status) (text : List ℕ) (journal : List Event)
    → IsDecided text_of m workers list other report events → IsDecided text_of m workers list answered text journal
    → AreSame other report events answered text journal
decided_same text_of m workers list one alone other report events answered text journal (reported is bounded left told text_is)
    (reported is_so bounded_so left_so told_so text_so) =
    let same : events ≡ journal = one events journal (alone_made m workers events alone is) (alone_made m workers journal alone is_so) in
    (told ∙ sym told_so, text_is ∙ ap (report_of_journal text_of m) same ∙ sym text_so, same)
decided_same text_of m workers list one alone other report events answered text journal (reported is bounded left told text_is)
    (decided is_so bounded_so none_so told_so text_so) =
    let same : events ≡ journal = one events journal (alone_made m workers events alone is) (alone_made m workers journal alone is_so) in
    absurd (cc (sym left ∙ ap (λ j. are_closed (last_works m j)) same ∙ none_so))
decided_same text_of m workers list one alone other report events answered text journal (decided is bounded none told text_is)
    (reported is_so bounded_so left_so told_so text_so) =
    let same : events ≡ journal = one events journal (alone_made m workers events alone is) (alone_made m workers journal alone is_so) in
    absurd (cc (sym none ∙ ap (λ j. are_closed (last_works m j)) same ∙ left_so))
decided_same text_of m workers list one alone other report events answered text journal (decided is bounded none told text_is)
    (decided is_so bounded_so none_so told_so text_so) =
    let same : events ≡ journal = one events journal (alone_made m workers events alone is) (alone_made m workers journal alone is_so) in (
      told ∙ ap (λ j. status_of_broken (broken_in text_of m list j)) same ∙ sym told_so,
      text_is ∙ ap (λ j. broken_text (item_line_of text_of) (broken_in text_of m list j)) same ∙ sym text_so,
      same,
    )

-- a text has one list of assertions
one_list : (spaces : List Space) (second : Option (List ℕ)) (text : List ℕ) (list also : List (ℕ × Assertion)) → second ≡ Some text
    → IfSome second (λ t. AreAsserted spaces t list) → IfSome second (λ t. AreAsserted spaces t also) → list ≡ also
one_list spaces second text list also e is so =
    let here : AreAsserted spaces text list = subst (λ s. IfSome s (λ t. AreAsserted spaces t list)) e is in
    let there : AreAsserted spaces text also = subst (λ s. IfSome s (λ t. AreAsserted spaces t also)) e so in
    cc (here.read, there.read)

no_second : (answered : Status) → TellsAnalysis answered → answered ≡ status.BadCert → ⊥
no_second answered (inl done) e = absurd (cc)
no_second answered (inr (inl left)) e = absurd (cc)
no_second answered (inr (inr broken)) e = absurd (cc)

asserted_same : HaveOnes → (task : Task) → task.workers ≡ 1 → (image : List (Option ℕ)) (second : Option (List ℕ)) (behind : List ℕ)
    → second ≡ Some behind
    → (other : Status) (report : List ℕ) (events : List Event) (answered : Status) (text : List ℕ) (journal : List Event)
    → TellsAnalysis other → TellsAnalysis answered
    → IsAssertedOn task image second other report events → IsAssertedOn task image second answered text journal
    → AreSame other report events answered text journal
asserted_same ones task alone image second behind e other report events answered text journal tells told (asserted list read that) (asserted also read_so this) =
    let f = family_of task.target image in
    decided_same f.text_of (f.analysis task.limits) task.workers also (ones task.target task.limits image).journal alone other report events answered text journal
    (subst (λ l. IsDecidedOn task.target task.limits task.workers image l other report events)
    (one_list (spaces_of task.target) second behind list also e read read_so) that) this
asserted_same ones task alone image second behind e other report events answered text journal tells told (asserted list read that)
    (unread line is status_is line_is none) = absurd (no_second answered told status_is)
asserted_same ones task alone image second behind e other report events answered text journal tells told (asserted list read that)
    (overlong is status_is line_is none) = absurd (not_long answered told status_is)
asserted_same ones task alone image second behind e other report events answered text journal tells told (unread line is status_is line_is none) this =
    absurd (no_second other tells status_is)
asserted_same ones task alone image second behind e other report events answered text journal tells told (overlong is status_is line_is none) this =
    absurd (not_long other tells status_is)

-- the replies to one image with one second text
image_same : HaveOnes
    → (reading : Reading) (image : List (Option ℕ)) (second : Option (List ℕ)) (behind : List ℕ) → second ≡ Some behind
    → WorksAlone reading
    → (other : Status) (report : List ℕ) (events : List Event) (answered : Status) (text : List ℕ) (journal : List Event)
    → TellsAnalysis other → TellsAnalysis answered
    → IsImageReply reading image second other report events → IsImageReply reading image second answered text journal
    → AreSame other report events answered text journal
image_same ones reading image second behind e (of_input task alone) other report events answered text journal tells told that this =
    told_same ones task.target task.limits task.workers task.cert image alone other report events answered text journal that this
image_same ones reading image second behind e (of_asserted task alone) other report events answered text journal tells told that this =
    asserted_same ones task alone image second behind e other report events answered text journal tells told that this
image_same ones reading image second behind e (of_made chip number) other report events answered text journal tells told that this =
    let task = usual_task chip in
    let f = family_of task.target image in
    let (whole, is, sum) = that in
    let (whole_so, is_so, sum_so) = this in
    let (status_is, report_is, journal_is) = on_same ones task.target task.limits task.workers image refl
    other whole events answered whole_so journal is is_so in
    (status_is, sum ∙ ap (summary_of_journal f.text_of (f.analysis task.limits) chip number) journal_is ∙ sym sum_so, journal_is)

-- the image and the second text that a text gives are one
one_given : HaveOneImage → (rules : Rules) (tail : Tail) (text : List ℕ) (second behind : Option (List ℕ)) (image other : List (Option ℕ))
    → InputGives rules tail (Some text) second image → InputGives rules tail (Some text) behind other
    → (image ≡ other) × (second ≡ behind)
one_given one rules Blank text second behind image other gives more = (
  one rules Blank _ image other gives.2.0.denoted more.2.0.denoted,
  gives.1 ∙ ap Some (gives.2.1 ∙ sym more.2.1) ∙ sym more.1,
)
one_given one rules Second text second behind image other gives more =
    let pair = one_pair one rules text image other gives.0 more.0 gives.2 more.2 in
    (pair.0, gives.1 ∙ ap Some pair.1 ∙ sym more.1)

reply_same : HaveOnes → HaveOneImage
    → (reading : Reading) → WorksAlone reading → (input : List ℕ)
    → (other : Status) (report : List ℕ) (events : List Event) (answered : Status) (text : List ℕ) (journal : List Event)
    → TellsAnalysis other → TellsAnalysis answered → IsReply reading (Some input) other report events
    → IsReply reading (Some input) answered text journal
    → AreSame other report events answered text journal
reply_same ones one reading works input other report events answered text journal tells told (of_image image second gives that)
    (of_image image_so behind more this) =
    let same = one_given one (rules_of reading) (tail_of reading) input second behind image image_so gives more in
    image_same ones reading image_so behind more.0 more.1 works other report events answered text journal tells told
    (subst (λ s. IsImageReply reading image_so s other report events) same.1
    (subst (λ i. IsImageReply reading i second other report events) same.0 that)) this
reply_same ones one reading works input other report events answered text journal tells told (of_image image second gives that)
    (of_bad line fault bad is line_is none) =
    absurd (no_image answered told is)
reply_same ones one reading works input other report events answered text journal tells told (of_image image second gives that)
    (of_long long is line_is none) =
    absurd (not_long answered told is)
reply_same ones one reading works input other report events answered text journal tells told (of_bad line fault bad is line_is none) this =
    absurd (no_image other tells is)
reply_same ones one reading works input other report events answered text journal tells told (of_long long is line_is none) this =
    absurd (not_long other tells is)

pub one_reply : HaveOnes → HaveOneImage
    → (reading : Reading) (answered : Status) (input before after : Option (List ℕ)) (journal : List Event)
    (text : List ℕ) → WorksAlone reading → Answers reading answered input before after journal → TellsAnalysis answered
    → input_of reading input ≡ Some text
    → IsOneReply reading (Some text) answered before after journal
one_reply ones one reading answered input before after journal text works answers tells e =
    let given = gives_reply reading answered input before after journal answers (no_fault answered tells) (has_room answered tells) in
    let reply = subst (λ i. IsReply reading i answered given.text journal) e given.reply in
    record {
      text = given.text;
      reply = reply;
      written = given.held;
      alone = λ other report events told that.
          reply_same ones one reading works text other report events answered given.text journal told tells that reply;
    }
