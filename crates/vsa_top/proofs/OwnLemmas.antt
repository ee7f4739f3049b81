-- The certificate that stands behind a report passes its check, which tells this report.
use Rattle.std.proofs.Common.{◌≡◌, ◌++◌, ◌≤◌, ℕ, true, false, Option, Some, List, refl, sym, ap, subst, ◌∙◌, inl, inr}
use Rattle.std.specs.Prelude.{◌⊎◌, length}
use Rattle.std.proofs.lemmas.List.{append_cancel_left}
use Rattle.analysis_limits.specs.declared.limits.Limits.{Limits}
use Rattle.cert_verdict.specs.Verdict.{IsVerdict}
use Rattle.image.specs.declared.tail.Tail.TheVariants.{Blank, Second}
use Rattle.ihex_read.specs.ImageText.{Denotes}
use Rattle.text_lines.specs.Lines as texts
use Rattle.image.specs.Kept.{IsRamRange}
use Rattle.report_bytes.specs.Report.{are_closed, last_works, report_of_journal}
use Rattle.book_rules.specs.declared.event.Event.{Event}
use Rattle.streams.specs.Stream.{appended}
use Rattle.vsa_top.specs.Answer.{Answers, IsReply, IsReportedOn, IsVerdictOn}
use Rattle.vsa_top.specs.Answer.IsReply.{of_image, of_bad, of_long}
use Rattle.vsa_top.specs.Headline.{CoversRunsOf}
use Rattle.vsa_top.specs.Input.{Gives}
use Rattle.vsa_top.specs.Own.{IsOwn, TellsReport, WritesOwn}
use Rattle.vsa_top.specs.Scripts.{second_limit}
use Rattle.vsa_words.specs.Words.{EndsInMemory, IsBounded, target_rules}
use Rattle.vsa_top.specs.Family.{family_of}
use Rattle.vsa_top.specs.Laws.{IsGiven}
use Rattle.vsa_top.specs.declared.outcome.Status.{Status}
use Rattle.vsa_top.specs.declared.outcome.Status.TheVariants.{Done, Memory}
use Rattle.vsa_words.specs.declared.reading.Reading.TheVariants.{Analyse, Check}
use Rattle.vsa_words.specs.declared.reading.Target.{Target}
use Rattle.vsa_words.specs.declared.reading.Task.{Task}
use Rattle.vsa_top.proofs.CheckedLemmas.{given_before, told_by}
use Rattle.vsa_top.proofs.LawsLemmas.{HaveOnes, HaveTruths}
use Rattle.vsa_top.proofs.HeadlineLemmas.{HaveOneImage, HaveRules, closed_is, covers_image, given_image, gives_image, gives_reply, same_image}

-- WHAT AN ANALYSIS WRITES

-- a report with its own certificate behind it was written
abbrev HasOwn : Target → Limits → List (Option ℕ) → (written : List ℕ) → Type 0
HasOwn target limits image written =
    (report : List ℕ) × (certificate : List ℕ) × (written ≡ report ++ certificate) × IsOwn target limits image report certificate

has_own : (target : Target) (limits : Limits) (workers : ℕ) (image : List (Option ℕ)) (written : List ℕ) (journal : List Event) (report certificate : List ℕ)
    → written ≡ report ++ certificate → IsReportedOn target limits workers false image Done report journal
    → IsReportedOn target limits workers true image Done (report ++ certificate) journal → HasOwn target limits image written
has_own target limits workers image written journal report certificate joined reported certified =
    (report, certificate, joined, record { workers = workers; journal = journal; reported = reported; certified = certified })

own_of : (target : Target) (limits : Limits) (workers : ℕ) (image : List (Option ℕ)) (written : List ℕ) (journal : List Event)
    → IsReportedOn target limits workers true image Done written journal → HasOwn target limits image written
own_of target limits workers image written journal is =
    let (certificate, cert, joined) = is.followed in
    has_own target limits workers image written journal is.report certificate joined
    (record { report = is.report; analysed = is.analysed; followed = refl })
    (record { report = is.report; analysed = is.analysed; followed = (certificate, cert, refl) })

written_reply : HaveOneImage → (task : Task) (input : Option (List ℕ)) (written : List ℕ) (journal : List Event) → task.cert ≡ true
    → IsReply (Analyse task) input Done written journal → (text : List ℕ) (image : List (Option ℕ)) → input ≡ Some text
    → Denotes (target_rules task.target) Blank (texts.lines_of text) image
    → (report : List ℕ) × (certificate : List ℕ) × (written ≡ report ++ certificate) × IsOwn task.target task.limits image report certificate
written_reply one task input written journal asked (of_image other second gives reply) text image e denoted =
    let rules = target_rules task.target in
    let same = same_image one rules input text image other e denoted (gives_image rules input second other gives) in
    own_of task.target task.limits task.workers image written journal
    (subst (λ cert. IsReportedOn task.target task.limits task.workers cert image Done written journal) asked
    (subst (λ i. IsReportedOn task.target task.limits task.workers task.cert i Done written journal) same reply))
written_reply one task input written journal asked (of_bad line fault bad is line_is none) text image e denoted = absurd (cc)
written_reply one task input written journal asked (of_long long is line_is none) text image e denoted = absurd (cc)

-- the report in front of a certificate covers every run
own_covers : HaveTruths → (target : Target) (limits : Limits) (image : List (Option ℕ)) (report certificate : List ℕ)
    → IsGiven target limits image → IsOwn target limits image report certificate → CoversRunsOf target image report
own_covers truths target limits image report certificate given own =
    let is = own.reported in
    subst (CoversRunsOf target image) (sym is.followed)
    (covers_image truths target limits own.workers image is.report own.journal given is.analysed)

pub written_lem : HaveTruths → HaveRules → HaveOneImage
    → (task : Task) (input before after : Option (List ℕ)) (journal : List Event)
    → IsRamRange (target_rules task.target) → EndsInMemory (target_rules task.target) → IsBounded (Analyse task) → task.cert ≡ true
    → Answers (Analyse task) Done input before after journal → WritesOwn task input before after
written_lem truths rules one task input before after journal range end few asked answers text image e denoted =
    let given = gives_reply (Analyse task) Done input before after journal answers ((λ f. cc f), (λ f. cc f)) (λ f. cc f) in
    let (report, certificate, joined, own) = written_reply one task input given.text journal asked given.reply text image e denoted in
    let covers = own_covers truths task.target task.limits image report certificate (given_image rules task text image range end few denoted) own in
    (report, certificate, given.held ∙ ap (appended before) joined, own, covers)

-- WHAT A CHECK TELLS

module _ (truths : HaveTruths) (ones : HaveOnes) (target : Target) (limits : Limits) (image : List (Option ℕ)) (report certificate : List ℕ) where
  own_verdict : IsGiven target limits image → (own : IsOwn target limits image report certificate)
      → (let f = family_of target image in IsVerdict f.text_of (f.analysis limits) f.texts certificate true report)
  own_verdict given own =
      let f = family_of target image in
      let a = f.analysis limits in
      let journal = own.journal in
      let plain = own.reported in
      let whole = own.certified in
      let made = plain.analysed.is_analysis in
      let first : report ≡ report_of_journal f.text_of a journal = plain.followed ∙ plain.analysed.text_is in
      let front : whole.report ≡ report = whole.analysed.text_is ∙ sym first in
      let (text, cert, joined) = whole.followed in
      let same : certificate ≡ text = append_cancel_left report certificate text (joined ∙ ap (λ r. r ++ text) front) in
      let closed = ((ones target limits image).told journal made.legal made.finished).0
      (closed_is (are_closed (last_works a journal)) plain.analysed.status_is) in
      subst (λ t. IsVerdict f.text_of a f.texts t true report) (sym same)
      (subst (λ r. IsVerdict f.text_of a f.texts text true r) (sym first)
      ((truths target limits image given).owns journal text made.legal closed cert))

pub accepted_lem : HaveTruths → HaveOnes → HaveRules → (task : Task) (answered : Status) (before after : Option (List ℕ))
    (text report certificate : List ℕ) (image : List (Option ℕ)) → IsRamRange (target_rules task.target) → EndsInMemory (target_rules task.target)
    → IsBounded (Check task) → Gives (target_rules task.target) Second text image certificate
    → IsOwn task.target task.limits image report certificate
    → length certificate ≤ second_limit → IsVerdictOn task image certificate answered before after ⊎ (answered ≡ Memory)
    → TellsReport answered before after report ⊎ (answered ≡ Memory)
accepted_lem truths ones rules task answered before after text report certificate image range end few gives own fits (inr memory) = inr memory
accepted_lem truths ones rules task answered before after text report certificate image range end few gives own fits (inl verdict) =
    let given = given_before rules task text certificate image range end few gives in
    let own_is = own_verdict truths ones task.target task.limits image report certificate given own in
    let same = told_by ones task.target task.limits image certificate report answered verdict.told own_is fits verdict.checked in
    inl (same.0, verdict.written ∙ ap (appended before) same.1)
