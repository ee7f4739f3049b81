-- An answer that tells a closed report covers every run, and one that tells an open one shows its open sites. An image
-- gets what is asked of it.
use Rattle.std.proofs.Common.{arith, ◌≡◌, ◌++◌, ◌-◌, ◌≤◌, ℕ, take, Bool, true, false, Option, None, Some, List, [], ◌∷◌, refl, sym, ap, subst, ◌∙◌, inl, inr}
use Rattle.std.specs.Prelude.{◌⊎◌, IfSome, length}
use Rattle.std.proofs.lemmas.List.{append-nil, take_all}
use Rattle.std.proofs.lemmas.Option.{same_Some}
use Rattle.image_gen.specs.Made.{made_image}
use Rattle.made_programs.specs.Chips.{rules_of as made_rules}
use Rattle.ihex_read.specs.declared.fault.HexFault.{HexFault}
use Rattle.image.specs.declared.rule_set.Rules.{Rules}
use Rattle.image.specs.declared.tail.Tail.{Tail}
use Rattle.image.specs.declared.tail.Tail.TheVariants.{Blank, Second}
use Rattle.ihex_read.specs.ImageText.{Denotes, FirstFault}
use Rattle.image.specs.Kept.{IsRamRange, IsReadUnder}
use Rattle.text_lines.specs.Lines as texts
use Rattle.ihex_read.specs.Reading.{HasEnded}
use Rattle.streams.specs.Stream.{appended}
use Rattle.book_rules.specs.declared.event.Event.{Event}
use Rattle.analysis_limits.specs.declared.limits.Limits.{Limits}
use Rattle.chip_analysis.specs.Analysis.{Analysis}
use Rattle.run_trace.specs.declared.trace.End.{End}
use Rattle.run_trace.specs.declared.trace.End.TheVariants as ended
use Rattle.run_trace.specs.Trace.{Ended}
use Rattle.report_bytes.specs.Report.{are_closed, last_works}
use Rattle.vsa_top.specs.declared.outcome.Status.{Status}
use Rattle.vsa_top.specs.declared.outcome.Status.TheVariants.{Done, Open, ReadFault, WriteFault, Memory}
use Rattle.vsa_top.specs.Answer.{Analyses, Answers, Ends, IsAnalysedOn, IsReportedOn, IsChecked, IsCheckedOn, IsAsserted, IsDecided, IsImageReply, IsReply, IsRun, IsJudged, TellsNoFault, run_under, status_of_analysis, status_of_end, status_of_verdict}
use Rattle.vsa_top.specs.Answer.Analyses.{of_input, of_asserted, of_made}
use Rattle.vsa_top.specs.Answer.Answers.{replied, unreplied}
use Rattle.vsa_top.specs.Answer.Ends.{closed, left_open, disassembled, ran_on, went_wild, lacked_a_choice, refused_script, script_too_long, summed, summed_open}
use Rattle.vsa_top.specs.Answer.Ends.{kept_all, broke, open_under_assertions, refused_assertions, assertions_too_long}
use Rattle.vsa_top.specs.Answer.Ends.{certified, refused_certificate, certificate_too_long}
use Rattle.vsa_top.specs.Answer.IsChecked.{judged, lengthy}
use Rattle.vsa_top.specs.Answer.IsAsserted.{asserted, unread, overlong}
use Rattle.vsa_top.specs.Answer.IsDecided.{reported, decided}
use Rattle.vsa_top.specs.Answer.IsReply.{of_image, of_bad, of_long}
use Rattle.vsa_top.specs.Answer.IsRun.{ran, refused, longer}
use Rattle.vsa_top.specs.Answer.IsWritten.{whole, cut}
use Rattle.cert_verdict.specs.Verdict.{IsVerdict}
use Rattle.state_text.specs.Texts.{StateTexts}
use Rattle.assert_check.specs.declared.assertion.Assertion.{Assertion}
use Rattle.assert_check.specs.declared.deciding.Broken.{Broken}
use Rattle.vsa_top.specs.Asserted.{AreAsserted, HoldOn, broken_in, spaces_of, status_of_broken}
use Rattle.vsa_top.specs.Family.{family_of}
use Rattle.vsa_top.specs.Laws.{IsGiven}
use Rattle.vsa_top.specs.Certified.{IsClosedCertOf}
use Rattle.vsa_top.specs.Headline.{BoundsStackOf, CertifiesOn, CoversRunsOf, HoldsOf, LeavesOpen, ReportsOn, ShowsSitesOf}
use Rattle.vsa_top.specs.Input.{text_limit, front_of, input_of, AreTexts, Gives, InputGives, IsBad, IsTooLong, IsImageOf}
use Rattle.image.specs.declared.chip_name.ChipName.{ChipName}
use Rattle.image.specs.declared.chip_name.ChipName.TheVariants as chip
use Rattle.vsa_words.specs.declared.reading.Reading.{Reading}
use Rattle.vsa_words.specs.declared.reading.Reading.TheVariants.{Analyse, Assert, Check, Disasm, Run, Gen}
use Rattle.vsa_words.specs.declared.reading.Target.{Target}
use Rattle.vsa_words.specs.declared.reading.Task.{Task}
use Rattle.vsa_words.specs.Words.{EndsInMemory, IsBounded, rules_of, target_rules, usual_limits, usual_target, tail_of}
use Rattle.vsa_top.proofs.LawsLemmas.{HaveTruths}
use Rattle.vsa_top.proofs.InputLemmas.{front_goes_on}

-- the reply that an answer gives whole
pub record GivesReply (reading : Reading) (answered : Status) (input before after : Option (List ℕ)) (journal : List Event) : Type 0 where
  pub text : List ℕ
  pub reply : IsReply reading (input_of reading input) answered text journal
  pub held : after ≡ appended before text

pub gives_reply : (reading : Reading) (answered : Status) (input before after : Option (List ℕ)) (journal : List Event)
    → Answers reading answered input before after journal → TellsNoFault answered → (answered ≡ Memory → ⊥)
    → GivesReply reading answered input before after journal
gives_reply reading answered input before after journal (replied reply text is (whole same held)) quiet room = record {
  text = text;
  reply = subst (λ s. IsReply reading (input_of reading input) s text journal) (sym same) is;
  held = held;
}
gives_reply reading answered input before after journal (replied reply text is (cut fault held)) quiet room = absurd (quiet.1 fault)
gives_reply reading answered input before after journal (unreplied (inl fault) kept none) quiet room = absurd (quiet.0 fault)
gives_reply reading answered input before after journal (unreplied (inr memory) kept none) quiet room = absurd (room memory)

-- Done is the status of a closed report, and Open that of another
pub closed_is : (is_closed : Bool) → Done ≡ status_of_analysis is_closed → is_closed ≡ true
closed_is true e = refl
closed_is false e = absurd (cc)

open_is : (is_closed : Bool) → Open ≡ status_of_analysis is_closed → is_closed ≡ false
open_is true e = absurd (cc)
open_is false e = refl

-- what is known of texts
abbrev pub HaveRules : Type 0
HaveRules = (rules : Rules) (tail : Tail) (lines : List (List ℕ)) (image : List (Option ℕ)) → Denotes rules tail lines image → IsReadUnder rules image

abbrev pub HaveOneImage : Type 0
HaveOneImage = (rules : Rules) (tail : Tail) (lines : List (List ℕ)) (image other : List (Option ℕ))
    → Denotes rules tail lines image → Denotes rules tail lines other → image ≡ other

-- the image of an answer is the one that the text denotes
pub same_image : HaveOneImage
    → (rules : Rules) (input : Option (List ℕ)) (text : List ℕ) (image other : List (Option ℕ)) → input ≡ Some text
    → Denotes rules Blank (texts.lines_of text) image → IfSome input (λ t. IsImageOf rules t other) → other ≡ image
same_image one rules None text image other e denoted found = absurd (cc)
same_image one rules (Some read) text image other e denoted found =
    let same : read ≡ text = same_Some read text e in
    one rules Blank (texts.lines_of text) other image (subst (λ t. Denotes rules Blank (texts.lines_of t) other) same found.denoted) denoted

-- the image that a text without a second one gives
pub gives_image : (rules : Rules) (input second : Option (List ℕ)) (image : List (Option ℕ)) → InputGives rules Blank input second image
    → IfSome input (λ t. IsImageOf rules t image)
gives_image rules None second image gives = tt
gives_image rules (Some text) second image gives = gives.2.0

-- the reply to assertions of a chip with an image
abbrev pub IsAssertedOn : (task : Task) → List (Option ℕ) → (second : Option (List ℕ)) → Status → List ℕ → List Event → Type 0
IsAssertedOn task image second answered text journal =
    let f = family_of task.target image in IsAsserted f.text_of (f.analysis task.limits) task second answered text journal

abbrev pub IsDecidedOn : Target → Limits → (workers : ℕ) → List (Option ℕ) → List (ℕ × Assertion) → Status → List ℕ → List Event → Type 0
IsDecidedOn target limits workers image list answered text journal =
    let f = family_of target image in IsDecided f.text_of (f.analysis limits) workers list answered text journal

-- the book that a closed or an open answer tells of
closed_works : (target : Target) (limits : Limits) (workers : ℕ) (image : List (Option ℕ)) (report : List ℕ) (journal : List Event)
    → IsAnalysedOn target limits workers image Done report journal
    → are_closed (last_works ((family_of target image).analysis limits) journal) ≡ true
closed_works target limits workers image report journal is =
    closed_is (are_closed (last_works ((family_of target image).analysis limits) journal)) is.status_is

pub covers_image : HaveTruths → (target : Target) (limits : Limits) (workers : ℕ) (image : List (Option ℕ)) (report : List ℕ) (journal : List Event)
    → IsGiven target limits image → IsAnalysedOn target limits workers image Done report journal → CoversRunsOf target image report
covers_image truths target limits workers image report journal given is =
    let made = is.is_analysis in
    subst (CoversRunsOf target image) (sym is.text_is)
    ((truths target limits image given).covers journal made.legal made.finished (closed_works target limits workers image report journal is))

bounds_image : HaveTruths → (target : Target) (limits : Limits) (workers : ℕ) (image : List (Option ℕ)) (report : List ℕ) (journal : List Event)
    → IsGiven target limits image → IsAnalysedOn target limits workers image Done report journal → BoundsStackOf target image report
bounds_image truths target limits workers image report journal given is =
    let made = is.is_analysis in
    subst (BoundsStackOf target image) (sym is.text_is)
    ((truths target limits image given).bounds journal made.legal made.finished (closed_works target limits workers image report journal is))

shows_image : HaveTruths → (target : Target) (limits : Limits) (workers : ℕ) (image : List (Option ℕ)) (report : List ℕ) (journal : List Event)
    → IsGiven target limits image → IsAnalysedOn target limits workers image Open report journal
    → ShowsSitesOf target limits image journal report
shows_image truths target limits workers image report journal given is =
    let made = is.is_analysis in
    let left = open_is (are_closed (last_works ((family_of target image).analysis limits) journal)) is.status_is in
    subst (ShowsSitesOf target limits image journal) (sym is.text_is)
    ((truths target limits image given).shows journal made.legal made.finished left)

-- the analysis of the image that the text denotes
analysed : HaveOneImage
    → (task : Task) (input second : Option (List ℕ)) (answered : Status) (written : List ℕ) (journal : List Event) (text : List ℕ)
    (image other : List (Option ℕ)) → InputGives (target_rules task.target) Blank input second other
    → IsReportedOn task.target task.limits task.workers task.cert other answered written journal
    → input ≡ Some text → Denotes (target_rules task.target) Blank (texts.lines_of text) image
    → IsReportedOn task.target task.limits task.workers task.cert image answered written journal
analysed one task input second answered written journal text image other gives reply e denoted =
    let rules = target_rules task.target in
    subst (λ i. IsReportedOn task.target task.limits task.workers task.cert i answered written journal)
    (same_image one rules input text image other e denoted (gives_image rules input second other gives)) reply

-- an image that was read is given
pub given_image : HaveRules → (task : Task) (text : List ℕ) (image : List (Option ℕ)) → IsRamRange (target_rules task.target)
    → EndsInMemory (target_rules task.target) → IsBounded (Analyse task)
    → Denotes (target_rules task.target) Blank (texts.lines_of text) image → IsGiven task.target task.limits image
given_image rules task text image range end few denoted =
    record { read = rules (target_rules task.target) Blank (texts.lines_of text) image denoted; ram = range; top = end; calls = few.0 }

-- what each report that is told as closed has
abbrev HasClosed : Task → (List (Option ℕ) → List ℕ → Type 0) → Type 0
HasClosed task P = (image : List (Option ℕ)) (report : List ℕ) (journal : List Event) → IsGiven task.target task.limits image
    → IsAnalysedOn task.target task.limits task.workers image Done report journal → P image report

closed_reply : (task : Task) (P : List (Option ℕ) → List ℕ → Type 0) → HasClosed task P → HaveRules → HaveOneImage
    → IsRamRange (target_rules task.target) → EndsInMemory (target_rules task.target) → IsBounded (Analyse task)
    → (input : Option (List ℕ)) (written : List ℕ) (journal : List Event)
    → IsReply (Analyse task) input Done written journal → (text : List ℕ) (image : List (Option ℕ)) → input ≡ Some text
    → Denotes (target_rules task.target) Blank (texts.lines_of text) image
    → (is : IsReportedOn task.target task.limits task.workers task.cert image Done written journal) × P image is.report
closed_reply task P has rules one range end few input written journal (of_image other second gives reply) text image e denoted =
    let is = analysed one task input second Done written journal text image other gives reply e denoted in
    (is, has image is.report journal (given_image rules task text image range end few denoted) is.analysed)
closed_reply task P has rules one range end few input written journal (of_bad line fault bad is line_is none) text image e denoted = absurd (cc)
closed_reply task P has rules one range end few input written journal (of_long long is line_is none) text image e denoted = absurd (cc)

closed_by : (task : Task) (P : List (Option ℕ) → List ℕ → Type 0) → HasClosed task P → HaveRules → HaveOneImage
    → (input before after : Option (List ℕ)) (journal : List Event)
    → IsRamRange (target_rules task.target) → EndsInMemory (target_rules task.target) → IsBounded (Analyse task)
    → Answers (Analyse task) Done input before after journal → ReportsOn task input before after journal P
closed_by task P has rules one input before after journal range end few answers text image e denoted =
    let given = gives_reply (Analyse task) Done input before after journal answers ((λ f. cc f), (λ f. cc f)) (λ f. cc f) in
    let told = closed_reply task P has rules one range end few input given.text journal given.reply text image e denoted in (
      told.0.report,
      record { text = given.text; followed = told.0.followed; held = given.held },
      told.1,
    )

pub closed_lem : HaveTruths → HaveRules → HaveOneImage
    → (task : Task) (input before after : Option (List ℕ)) (journal : List Event)
    → IsRamRange (target_rules task.target) → EndsInMemory (target_rules task.target) → IsBounded (Analyse task)
    → Answers (Analyse task) Done input before after journal → ReportsOn task input before after journal (CoversRunsOf task.target)
closed_lem truths rules one task = closed_by task (CoversRunsOf task.target)
    (λ image report journal. covers_image truths task.target task.limits task.workers image report journal) rules one

pub bounded_lem : HaveTruths → HaveRules → HaveOneImage
    → (task : Task) (input before after : Option (List ℕ)) (journal : List Event)
    → IsRamRange (target_rules task.target) → EndsInMemory (target_rules task.target) → IsBounded (Analyse task)
    → Answers (Analyse task) Done input before after journal → ReportsOn task input before after journal (BoundsStackOf task.target)
bounded_lem truths rules one task = closed_by task (BoundsStackOf task.target)
    (λ image report journal. bounds_image truths task.target task.limits task.workers image report journal) rules one

end_ends : (target : Target) (steps : ℕ) (end : End) → Ends (Run target steps) (status_of_end end)
end_ends target steps ended.Ran = ran_on target steps
end_ends target steps ended.Wild = went_wild target steps
end_ends target steps ended.NeedChoice = lacked_a_choice target steps

analysis_ends : (task : Task) (is_closed : Bool) → Ends (Analyse task) (status_of_analysis is_closed)
analysis_ends task true = closed task
analysis_ends task false = left_open task

summary_ends : (chip : ChipName) (number : ℕ) (is_closed : Bool) → Ends (Gen chip number) (status_of_analysis is_closed)
summary_ends chip number true = summed chip number
summary_ends chip number false = summed_open chip number

-- the statuses of what is answered to assertions
decision_ends : (task : Task) (broken : List Broken) → Ends (Assert task) (status_of_broken broken)
decision_ends task [] = kept_all task
decision_ends task (b ∷ broken) = broke task

decided_ends : {A : Type 0} (text_of : ℕ → List ℕ → List ℕ) (analysis : Analysis A) (task : Task) (workers : ℕ) (list : List (ℕ × Assertion)) (answered : Status)
    (text : List ℕ) (journal : List Event) → IsDecided text_of analysis workers list answered text journal → Ends (Assert task) answered
decided_ends text_of analysis task workers list answered text journal (reported is bounded left told text_is) =
    subst (Ends (Assert task)) (sym told) (open_under_assertions task)
decided_ends text_of analysis task workers list answered text journal (decided is bounded none told text_is) =
    subst (Ends (Assert task)) (sym told) (decision_ends task (broken_in text_of analysis list journal))

asserted_ends : (task : Task) (image : List (Option ℕ)) (second : Option (List ℕ)) (answered : Status) (text : List ℕ) (journal : List Event)
    → IsAssertedOn task image second answered text journal → Ends (Assert task) answered
asserted_ends task image second answered text journal (asserted list read is) =
    let f = family_of task.target image in decided_ends f.text_of (f.analysis task.limits) task task.workers list answered text journal is
asserted_ends task image second answered text journal (unread line is told line_is none) = subst (Ends (Assert task)) (sym told) (refused_assertions task)
asserted_ends task image second answered text journal (overlong is told line_is none) = subst (Ends (Assert task)) (sym told) (assertions_too_long task)

verdict_ends : (task : Task) (is_closed : Bool) → Ends (Check task) (status_of_verdict is_closed)
verdict_ends task true = certified task
verdict_ends task false = refused_certificate task

checked_ends : {A : Type 0} (text_of : ℕ → List ℕ → List ℕ) (analysis : Analysis A) (texts : StateTexts A) (task : Task) (second : Option (List ℕ))
    (answered : Status) (text : List ℕ) → IsChecked text_of analysis texts second answered text → Ends (Check task) answered
checked_ends text_of analysis texts task second answered text (judged is_closed is told) = subst (Ends (Check task)) (sym told) (verdict_ends task is_closed)
checked_ends text_of analysis texts task second answered text (lengthy is told line_is) =
    subst (Ends (Check task)) (sym told) (certificate_too_long task)

run_reply_ends : (target : Target) (steps : ℕ) (run : List ℕ → Ended) (second : Option (List ℕ)) (answered : Status) (text : List ℕ)
    → IsRun run second answered text → Ends (Run target steps) answered
run_reply_ends target steps run second answered text (ran script is told text_is) =
    subst (Ends (Run target steps)) (sym told) (end_ends target steps (run script).0)
run_reply_ends target steps run second answered text (refused line is told line_is) = subst (Ends (Run target steps)) (sym told) (refused_script target steps)
run_reply_ends target steps run second answered text (longer is told line_is) = subst (Ends (Run target steps)) (sym told) (script_too_long target steps)

image_reply_ends : (reading : Reading) (image : List (Option ℕ)) (second : Option (List ℕ)) (answered : Status) (text : List ℕ) (journal : List Event)
    → IsImageReply reading image second answered text journal → Ends reading answered
image_reply_ends (Analyse task) image second answered text journal is =
    let works = last_works ((family_of task.target image).analysis task.limits) journal in
    subst (Ends (Analyse task)) (sym is.analysed.status_is) (analysis_ends task (are_closed works))
image_reply_ends (Assert task) image second answered text journal is = asserted_ends task image second answered text journal is
image_reply_ends (Check task) image second answered text journal is =
    let f = family_of task.target image in checked_ends f.text_of (f.analysis task.limits) f.texts task second answered text is.0
image_reply_ends (Disasm target) image second answered text journal is = subst (Ends (Disasm target)) (sym is.0) (disassembled target)
image_reply_ends (Run target steps) image second answered text journal is =
    run_reply_ends target steps (run_under target steps image) second answered text is.0
image_reply_ends (Gen chip number) image second answered text journal is =
    let works = last_works ((family_of (usual_target chip) image).analysis usual_limits) journal in
    subst (Ends (Gen chip number)) (sym is.1.status_is) (summary_ends chip number (are_closed works))

-- what ends so tells no fault
ends_quiet : (reading : Reading) (answered : Status) → Ends reading answered → TellsNoFault answered
ends_quiet reading answered (closed task) = ((λ f. cc f), (λ f. cc f))
ends_quiet reading answered (left_open task) = ((λ f. cc f), (λ f. cc f))
ends_quiet reading answered (disassembled target) = ((λ f. cc f), (λ f. cc f))
ends_quiet reading answered (ran_on target steps) = ((λ f. cc f), (λ f. cc f))
ends_quiet reading answered (went_wild target steps) = ((λ f. cc f), (λ f. cc f))
ends_quiet reading answered (lacked_a_choice target steps) = ((λ f. cc f), (λ f. cc f))
ends_quiet reading answered (refused_script target steps) = ((λ f. cc f), (λ f. cc f))
ends_quiet reading answered (script_too_long target steps) = ((λ f. cc f), (λ f. cc f))
ends_quiet reading answered (kept_all task) = ((λ f. cc f), (λ f. cc f))
ends_quiet reading answered (open_under_assertions task) = ((λ f. cc f), (λ f. cc f))
ends_quiet reading answered (broke task) = ((λ f. cc f), (λ f. cc f))
ends_quiet reading answered (refused_assertions task) = ((λ f. cc f), (λ f. cc f))
ends_quiet reading answered (assertions_too_long task) = ((λ f. cc f), (λ f. cc f))
ends_quiet reading answered (certified task) = ((λ f. cc f), (λ f. cc f))
ends_quiet reading answered (refused_certificate task) = ((λ f. cc f), (λ f. cc f))
ends_quiet reading answered (certificate_too_long task) = ((λ f. cc f), (λ f. cc f))
ends_quiet reading answered (summed chip number) = ((λ f. cc f), (λ f. cc f))
ends_quiet reading answered (summed_open chip number) = ((λ f. cc f), (λ f. cc f))

pub reply_quiet : (reading : Reading) (input : Option (List ℕ)) (answered : Status) (text : List ℕ) (journal : List Event)
    → IsReply reading input answered text journal → TellsNoFault answered
reply_quiet reading input answered text journal (of_image image second gives reply) =
    ends_quiet reading answered (image_reply_ends reading image second answered text journal reply)
reply_quiet reading input answered text journal (of_bad line fault bad is line_is none) = ((λ f. cc (is, f)), (λ f. cc (is, f)))
reply_quiet reading input answered text journal (of_long long is line_is none) = ((λ f. cc (is, f)), (λ f. cc (is, f)))

-- an analysis alone leaves something open
analyses_open : (reading : Reading) (answered : Status) → Ends reading answered → answered ≡ Open → Analyses reading
analyses_open reading answered (closed task) e = of_input task
analyses_open reading answered (left_open task) e = of_input task
analyses_open reading answered (disassembled target) e = absurd (cc)
analyses_open reading answered (ran_on target steps) e = absurd (cc)
analyses_open reading answered (went_wild target steps) e = absurd (cc)
analyses_open reading answered (lacked_a_choice target steps) e = absurd (cc)
analyses_open reading answered (refused_script target steps) e = absurd (cc)
analyses_open reading answered (script_too_long target steps) e = absurd (cc)
analyses_open reading answered (kept_all task) e = absurd (cc)
analyses_open reading answered (open_under_assertions task) e = of_asserted task
analyses_open reading answered (broke task) e = absurd (cc)
analyses_open reading answered (refused_assertions task) e = absurd (cc)
analyses_open reading answered (assertions_too_long task) e = absurd (cc)
analyses_open reading answered (certified task) e = absurd (cc)
analyses_open reading answered (refused_certificate task) e = absurd (cc)
analyses_open reading answered (certificate_too_long task) e = absurd (cc)
analyses_open reading answered (summed chip number) e = of_made chip number
analyses_open reading answered (summed_open chip number) e = of_made chip number

open_reply_analyses : (reading : Reading) (input : Option (List ℕ)) (report : List ℕ) (journal : List Event)
    → IsReply reading input Open report journal
    → Analyses reading
open_reply_analyses reading input report journal (of_image other second gives reply) =
    analyses_open reading Open (image_reply_ends reading other second Open report journal reply) refl
open_reply_analyses reading input report journal (of_bad line fault bad is line_is none) = absurd (cc)
open_reply_analyses reading input report journal (of_long long is line_is none) = absurd (cc)

pub open_alone_lem : (reading : Reading) (input before after : Option (List ℕ)) (journal : List Event)
    → Answers reading Open input before after journal → Analyses reading
open_alone_lem reading input before after journal answers =
    let given = gives_reply reading Open input before after journal answers ((λ f. cc f), (λ f. cc f)) (λ f. cc f) in
    open_reply_analyses reading (input_of reading input) given.text journal given.reply

open_reply : HaveTruths → HaveRules → HaveOneImage → (task : Task) → IsRamRange (target_rules task.target)
    → EndsInMemory (target_rules task.target) → IsBounded (Analyse task)
    → (input : Option (List ℕ)) (written : List ℕ) (journal : List Event)
    → IsReply (Analyse task) input Open written journal → (text : List ℕ) (image : List (Option ℕ)) → input ≡ Some text
    → Denotes (target_rules task.target) Blank (texts.lines_of text) image
    → (is : IsReportedOn task.target task.limits task.workers task.cert image Open written journal) × ShowsSitesOf task.target task.limits image journal is.report
open_reply truths rules one task range end few input written journal (of_image other second gives reply) text image e denoted =
    let is = analysed one task input second Open written journal text image other gives reply e denoted in
    (is, shows_image truths task.target task.limits task.workers image is.report journal (given_image rules task text image range end few denoted) is.analysed)
open_reply truths rules one task range end few input written journal (of_bad line fault bad is line_is none) text image e denoted = absurd (cc)
open_reply truths rules one task range end few input written journal (of_long long is line_is none) text image e denoted = absurd (cc)

pub open_lem : HaveTruths → HaveRules → HaveOneImage
    → (task : Task) (input before after : Option (List ℕ)) (journal : List Event)
    → IsRamRange (target_rules task.target) → EndsInMemory (target_rules task.target) → IsBounded (Analyse task)
    → Answers (Analyse task) Open input before after journal
    → ReportsOn task input before after journal (λ image report. ShowsSitesOf task.target task.limits image journal report)
open_lem truths rules one task input before after journal range end few answers text image e denoted =
    let given = gives_reply (Analyse task) Open input before after journal answers ((λ f. cc f), (λ f. cc f)) (λ f. cc f) in
    let told = open_reply truths rules one task range end few input given.text journal given.reply text image e denoted in (
      told.0.report,
      record { text = given.text; followed = told.0.followed; held = given.held },
      told.1,
    )

-- ASSERTIONS

none_broken : (list : List Broken) → Done ≡ status_of_broken list → list ≡ []
none_broken [] e = refl
none_broken (b ∷ list) e = absurd (cc)

holds_image : HaveTruths → (target : Target) (limits : Limits) (workers : ℕ) (image : List (Option ℕ)) (list : List (ℕ × Assertion)) (text : List ℕ)
    (journal : List Event) → IsGiven target limits image
    → IsDecidedOn target limits workers image list Done text journal → HoldOn target image list
holds_image truths target limits workers image list text journal given (reported is bounded left told text_is) = absurd (cc)
holds_image truths target limits workers image list text journal given (decided is bounded none told text_is) =
    let f = family_of target image in
    (truths target limits image given).holds list journal is.legal is.finished none
    (none_broken (broken_in f.text_of (f.analysis limits) list journal) told)

-- what is told of a second text that the input gives
told_second : {P : List ℕ → Type 0} (rules : Rules) (input second : Option (List ℕ)) (image : List (Option ℕ)) (text : List ℕ)
    → input ≡ Some text
    → InputGives rules Second input second image → IfSome second P → (behind : List ℕ) × Gives rules Second text image behind × P behind
told_second rules None second image text e gives told = absurd (cc)
told_second {P} rules (Some read) second image text e gives told =
    let same : read ≡ text = same_Some read text e in
    (gives.0, subst (λ t. Gives rules Second t image gives.0) same gives.2, subst (λ s. IfSome s P) gives.1 told)

asserted_image : HaveTruths → HaveRules → (task : Task) → IsRamRange (target_rules task.target)
    → EndsInMemory (target_rules task.target)
    → IsBounded (Assert task) → (input second : Option (List ℕ)) (image : List (Option ℕ)) (report : List ℕ) (journal : List Event)
    → InputGives (target_rules task.target) Second input second image → IsAssertedOn task image second Done report journal
    → HoldsOf task.target input
asserted_image truths rules task range end few input second image report journal gives (asserted list read is) text e =
    let behind = told_second {P = λ t. AreAsserted (spaces_of task.target) t list} (target_rules task.target) input second image text e gives read in
    let given : IsGiven task.target task.limits image = record {
      read = rules (target_rules task.target) Second (texts.lines_of behind.1.front) image behind.1.denoted;
      ram = range;
      top = end;
      calls = few.0;
    } in
    (image, behind.0, list, behind.1, behind.2.read, holds_image truths task.target task.limits task.workers image list report journal given is)
asserted_image truths rules task range end few input second image report journal gives (unread line is told line_is none) text e = absurd (cc)
asserted_image truths rules task range end few input second image report journal gives (overlong is told line_is none) text e = absurd (cc)

asserted_reply : HaveTruths → HaveRules → (task : Task) → IsRamRange (target_rules task.target)
    → EndsInMemory (target_rules task.target)
    → IsBounded (Assert task) → (input : Option (List ℕ)) (report : List ℕ) (journal : List Event)
    → IsReply (Assert task) input Done report journal
    → HoldsOf task.target input
asserted_reply truths rules task range end few input report journal (of_image image second gives reply) text e =
    asserted_image truths rules task range end few input second image report journal gives reply text e
asserted_reply truths rules task range end few input report journal (of_bad line fault bad is line_is none) text e = absurd (cc)
asserted_reply truths rules task range end few input report journal (of_long long is line_is none) text e = absurd (cc)

pub asserted_lem : HaveTruths → HaveRules → (task : Task) (input before after : Option (List ℕ)) (journal : List Event)
    → IsRamRange (target_rules task.target) → EndsInMemory (target_rules task.target) → IsBounded (Assert task)
    → Answers (Assert task) Done input before after journal → HoldsOf task.target input
asserted_lem truths rules task input before after journal range end few answers =
    let given = gives_reply (Assert task) Done input before after journal answers ((λ f. cc f), (λ f. cc f)) (λ f. cc f) in
    asserted_reply truths rules task range end few input given.text journal given.reply

-- what is left open under assertions
not_open : (list : List Broken) → Open ≡ status_of_broken list → ⊥
not_open [] e = cc
not_open (b ∷ list) e = cc

shows_decided : HaveTruths → (target : Target) (limits : Limits) (workers : ℕ) (image : List (Option ℕ)) (list : List (ℕ × Assertion)) (text : List ℕ)
    (journal : List Event) → IsGiven target limits image
    → IsDecidedOn target limits workers image list Open text journal → ShowsSitesOf target limits image journal text
shows_decided truths target limits workers image list text journal given (reported is bounded left told text_is) =
    subst (ShowsSitesOf target limits image journal) (sym text_is) ((truths target limits image given).shows journal is.legal is.finished left)
shows_decided truths target limits workers image list text journal given (decided is bounded none told text_is) =
    let f = family_of target image in absurd (not_open (broken_in f.text_of (f.analysis limits) list journal) told)

-- an open report under assertions, with the image and what stands behind it
pub record IsLeftOpen (task : Task) (text report : List ℕ) (journal : List Event) : Type 0 where
  pub image : List (Option ℕ)
  pub second : List ℕ
  pub gives : Gives (target_rules task.target) Second text image second
  pub shows : ShowsSitesOf task.target task.limits image journal report

open_image : HaveTruths → HaveRules → (task : Task) → IsRamRange (target_rules task.target)
    → EndsInMemory (target_rules task.target)
    → IsBounded (Assert task) → (input second : Option (List ℕ)) (image : List (Option ℕ)) (report : List ℕ) (journal : List Event)
    → InputGives (target_rules task.target) Second input second image → IsAssertedOn task image second Open report journal
    → (text : List ℕ) → input ≡ Some text → IsLeftOpen task text report journal
open_image truths rules task range end few input second image report journal gives (asserted list read is) text e =
    let behind = told_second {P = λ t. AreAsserted (spaces_of task.target) t list} (target_rules task.target) input second image text e gives read in
    let given : IsGiven task.target task.limits image = record {
      read = rules (target_rules task.target) Second (texts.lines_of behind.1.front) image behind.1.denoted;
      ram = range;
      top = end;
      calls = few.0;
    } in record {
      image = image;
      second = behind.0;
      gives = behind.1;
      shows = shows_decided truths task.target task.limits task.workers image list report journal given is;
    }
open_image truths rules task range end few input second image report journal gives (unread line is told line_is none) text e = absurd (cc)
open_image truths rules task range end few input second image report journal gives (overlong is told line_is none) text e = absurd (cc)

open_asserted : HaveTruths → HaveRules → (task : Task) → IsRamRange (target_rules task.target)
    → EndsInMemory (target_rules task.target)
    → IsBounded (Assert task) → (input : Option (List ℕ)) (report : List ℕ) (journal : List Event)
    → IsReply (Assert task) input Open report journal
    → (text : List ℕ) → input ≡ Some text → IsLeftOpen task text report journal
open_asserted truths rules task range end few input report journal (of_image image second gives reply) text e =
    open_image truths rules task range end few input second image report journal gives reply text e
open_asserted truths rules task range end few input report journal (of_bad line fault bad is line_is none) text e = absurd (cc)
open_asserted truths rules task range end few input report journal (of_long long is line_is none) text e = absurd (cc)

pub left_open_lem : HaveTruths → HaveRules → (task : Task) (input before after : Option (List ℕ)) (journal : List Event)
    → IsRamRange (target_rules task.target) → EndsInMemory (target_rules task.target) → IsBounded (Assert task)
    → Answers (Assert task) Open input before after journal → LeavesOpen task input before after journal
left_open_lem truths rules task input before after journal range end few answers text e =
    let given = gives_reply (Assert task) Open input before after journal answers ((λ f. cc f), (λ f. cc f)) (λ f. cc f) in
    let is = open_asserted truths rules task range end few input given.text journal given.reply text e in
    (is.image, is.second, given.text, is.gives, given.held, is.shows)

-- CERTIFICATES

done_closed : (is_closed : Bool) → Done ≡ status_of_verdict is_closed → is_closed ≡ true
done_closed true e = refl
done_closed false e = absurd (cc)

-- the verdict that Done tells
abbrev pub IsClosedVerdict : {A : Type 0} → (text_of : ℕ → List ℕ → List ℕ) → Analysis A → StateTexts A
    → (second : Option (List ℕ)) → (report : List ℕ) → Type 0
IsClosedVerdict text_of analysis texts second report = IfSome second (λ t. IsVerdict text_of analysis texts t true report)

verdict_of : {A : Type 0} (text_of : ℕ → List ℕ → List ℕ) (analysis : Analysis A) (texts : StateTexts A) (second : Option (List ℕ)) (is_closed : Bool)
    (report : List ℕ) → is_closed ≡ true → IfSome second (λ t. IsJudged text_of analysis texts t is_closed report)
    → IsClosedVerdict text_of analysis texts second report
verdict_of text_of analysis texts None is_closed report same is = tt
verdict_of text_of analysis texts (Some t) is_closed report same is = subst (λ c. IsVerdict text_of analysis texts t c report) same is.verdict

pub closed_verdict : {A : Type 0} (text_of : ℕ → List ℕ → List ℕ) (analysis : Analysis A) (texts : StateTexts A) (second : Option (List ℕ)) (report : List ℕ)
    → IsChecked text_of analysis texts second Done report → IsClosedVerdict text_of analysis texts second report
closed_verdict text_of analysis texts second report (judged is_closed is told) =
    verdict_of text_of analysis texts second is_closed report (done_closed is_closed told) is
closed_verdict text_of analysis texts second report (lengthy is told line_is) = absurd (cc)

certified_image : HaveTruths
    → (target : Target) (limits : Limits) (image : List (Option ℕ)) (input second : Option (List ℕ))
    (report text : List ℕ) → input ≡ Some text → InputGives (target_rules target) Second input second image
    → ((behind : List ℕ) → Gives (target_rules target) Second text image behind → IsGiven target limits image)
    → IsCheckedOn target limits image second Done report
    → (behind : List ℕ) × Gives (target_rules target) Second text image behind × IsClosedCertOf target limits image behind
    × CoversRunsOf target image report
certified_image truths target limits image input second report text e gives given is =
    let f = family_of target image in
    let told = told_second {P = λ t. IsVerdict f.text_of (f.analysis limits) f.texts t true report} (target_rules target) input second image text e
    gives (closed_verdict f.text_of (f.analysis limits) f.texts second report is) in
    let true_of = truths target limits image (given told.0 told.1) in
    (told.0, told.1, true_of.closes told.0 report told.2, true_of.certifies told.0 report told.2)

-- the image of a certificate whose table is closed, with what stands behind it
pub record IsCertified (target : Target) (limits : Limits) (text report : List ℕ) : Type 0 where
  pub image : List (Option ℕ)
  pub second : List ℕ
  pub gives : Gives (target_rules target) Second text image second
  pub closed : IsClosedCertOf target limits image second
  pub covers : CoversRunsOf target image report

certified_reply : HaveTruths → HaveRules → (task : Task) → IsRamRange (target_rules task.target)
    → EndsInMemory (target_rules task.target) → IsBounded (Check task)
    → (input : Option (List ℕ)) (report : List ℕ) (journal : List Event) (text : List ℕ)
    → input ≡ Some text → IsReply (Check task) input Done report journal → IsCertified task.target task.limits text report
certified_reply truths rules task range end few input report journal text e (of_image image second gives reply) =
    let read : (behind : List ℕ) → Gives (target_rules task.target) Second text image behind → IsGiven task.target task.limits image
    = λ behind is. record {
      read = rules (target_rules task.target) Second (texts.lines_of is.front) image is.denoted;
      ram = range;
      top = end;
      calls = few.0;
    } in
    let is = certified_image truths task.target task.limits image input second report text e gives read reply.0 in
    record { image = image; second = is.0; gives = is.1; closed = is.2; covers = is.3 }
certified_reply truths rules task range end few input report journal text e (of_bad line fault bad is line_is none) = absurd (cc)
certified_reply truths rules task range end few input report journal text e (of_long long is line_is none) = absurd (cc)

pub certified_lem : HaveTruths → HaveRules → (task : Task) (input before after : Option (List ℕ)) (journal : List Event)
    → IsRamRange (target_rules task.target) → EndsInMemory (target_rules task.target) → IsBounded (Check task)
    → Answers (Check task) Done input before after journal → CertifiesOn task input before after
certified_lem truths rules task input before after journal range end few answers text e =
    let given = gives_reply (Check task) Done input before after journal answers ((λ f. cc f), (λ f. cc f)) (λ f. cc f) in
    let is = certified_reply truths rules task range end few input given.text journal text e given.reply in
    (is.image, is.second, given.text, is.gives, given.held, (is.closed, is.covers))

abbrev pub HaveNotBoth : Type 0
HaveNotBoth = (rules : Rules) (tail : Tail) (lines : List (List ℕ)) (image : List (Option ℕ)) (line : ℕ) (fault : HexFault)
    → Denotes rules tail lines image → FirstFault rules tail lines line fault → ⊥

-- what stands behind a text that has ended
abbrev pub EndedStay : Type 0
EndedStay = (rules : Rules) (text more : List ℕ) → HasEnded rules text → HasEnded rules (text ++ more)

abbrev pub EndedAreFaultless : Type 0
EndedAreFaultless = (rules : Rules) (text : List ℕ) (line : ℕ) (fault : HexFault) → HasEnded rules text
    → FirstFault rules Second (texts.lines_of text) line fault → ⊥

-- the first bytes of a text that is all image text
all_front : (front second text : List ℕ) → text ≡ front ++ second → second ≡ [] → length front ≤ text_limit
    → (text ≡ front) × (front_of text ≡ front)
all_front front second text joined none fits =
    let same : text ≡ front = joined ∙ ap (λ t. front ++ t) none ∙ append-nil front in
    (same, ap front_of same ∙ take_all text_limit front fits)

-- the first bytes of a text that an image text begins have no fault
front_faultless : HaveNotBoth → EndedStay → EndedAreFaultless
    → (rules : Rules) (text : List ℕ) (image : List (Option ℕ)) (second : List ℕ) (line : ℕ)
    (fault : HexFault) → (is : AreTexts rules text image second) → (second ≡ []) ⊎ HasEnded rules is.front
    → FirstFault rules Second (texts.lines_of (front_of text)) line fault → ⊥
front_faultless both stay faultless rules text image second line fault is (inl none) first =
    let all = all_front is.front second text is.whole none is.fits in
    both rules Second (texts.lines_of is.front) image line fault is.denoted (subst (λ t. FirstFault rules Second (texts.lines_of t) line fault) all.1 first)
front_faultless both stay faultless rules text image second line fault is (inr ended) first =
    let more = take (text_limit - length is.front) second in
    let same : front_of text ≡ is.front ++ more = ap front_of is.whole ∙ front_goes_on is.front second is.fits in
    faultless rules (front_of text) line fault (subst (HasEnded rules) (sym same) (stay rules is.front more ended)) first

-- a text of an image isn't refused
pub not_bad : HaveNotBoth → EndedStay → EndedAreFaultless
    → (rules : Rules) (tail : Tail) (text : List ℕ) (image : List (Option ℕ)) (second : List ℕ) (line : ℕ)
    (fault : HexFault) → Gives rules tail text image second → IsBad rules tail text line fault → ⊥
not_bad both stay faultless rules Blank text image second line fault gives bad =
    both rules Blank (texts.lines_of text) image line fault gives.0.denoted
    (subst (λ t. FirstFault rules Blank (texts.lines_of t) line fault) (take_all text_limit text gives.0.fits) bad.first)
not_bad both stay faultless rules Second text image second line fault gives bad =
    front_faultless both stay faultless rules text image second line fault gives gives.ends bad.first

not_long_behind : EndedStay → (rules : Rules) (text : List ℕ) (image : List (Option ℕ)) (second : List ℕ)
    → (is : AreTexts rules text image second)
    → (second ≡ []) ⊎ HasEnded rules is.front → IsTooLong rules Second text → ⊥
not_long_behind stay rules text image second is (inl none) long =
    let all = all_front is.front second text is.whole none is.fits in omega (arith, is.fits, long.longer, ap length all.0)
not_long_behind stay rules text image second is (inr ended) long =
    let more = take (text_limit - length is.front) second in
    let same : front_of text ≡ is.front ++ more = ap front_of is.whole ∙ front_goes_on is.front second is.fits in
    long.unended refl (subst (HasEnded rules) (sym same) (stay rules is.front more ended))

pub not_long : EndedStay → (rules : Rules) (tail : Tail) (text : List ℕ) (image : List (Option ℕ)) (second : List ℕ)
    → Gives rules tail text image second
    → IsTooLong rules tail text → ⊥
not_long stay rules Blank text image second gives long = omega (arith, gives.0.fits, long.longer)
not_long stay rules Second text image second gives long = not_long_behind stay rules text image second gives gives.ends long

-- the status of the reply to an input that gives an image
reply_ends : HaveNotBoth → EndedStay → EndedAreFaultless
    → (reading : Reading) (answered : Status) (input : Option (List ℕ)) (report : List ℕ) (journal : List Event)
    (text : List ℕ) (image : List (Option ℕ)) (second : List ℕ) → IsReply reading input answered report journal → input ≡ Some text
    → Gives (rules_of reading) (tail_of reading) text image second → Ends reading answered
reply_ends both ended faultless reading answered input report journal text image second (of_image other behind found reply) e is =
    image_reply_ends reading other behind answered report journal reply
reply_ends both ended faultless reading answered input report journal text image second (of_bad line fault bad told line_is none) e is =
    absurd (not_bad both ended faultless (rules_of reading) (tail_of reading) text image second line fault is
    (subst (λ i. IfSome i (λ t. IsBad (rules_of reading) (tail_of reading) t line fault)) e bad))
reply_ends both ended faultless reading answered input report journal text image second (of_long long told line_is none) e is =
    absurd (not_long ended (rules_of reading) (tail_of reading) text image second is
    (subst (λ i. IfSome i (IsTooLong (rules_of reading) (tail_of reading))) e long))

pub complete_lem : HaveNotBoth → EndedStay → EndedAreFaultless
    → (reading : Reading) (answered : Status) (input before after : Option (List ℕ)) (journal : List Event) (text : List ℕ)
    (image : List (Option ℕ)) (second : List ℕ) → Answers reading answered input before after journal → input_of reading input ≡ Some text
    → Gives (rules_of reading) (tail_of reading) text image second → (answered ≡ ReadFault → ⊥) → (answered ≡ WriteFault → ⊥)
    → Ends reading answered ⊎ (answered ≡ Memory)
complete_lem both ended faultless reading answered input before after journal text image second (replied reply report is (whole same held)) e gives no_read no_write =
    inl (subst (Ends reading) (sym same) (reply_ends both ended faultless reading reply (input_of reading input) report journal text image second is e gives))
complete_lem both ended faultless reading answered input before after journal text image second (replied reply report is (cut fault held)) e gives no_read no_write =
    absurd (no_write fault)
complete_lem both ended faultless reading answered input before after journal text image second (unreplied (inl fault) kept none) e gives no_read no_write =
    absurd (no_read fault)
complete_lem both ended faultless reading answered input before after journal text image second (unreplied (inr memory) kept none) e gives no_read no_write = inr memory

-- MADE PROGRAMS

abbrev HaveImages : Type 0
HaveImages = (chip : ChipName) (number : ℕ) → number ≤ 2000 → (image : List (Option ℕ)) × Denotes (made_rules chip) Blank (texts.lines_of (made_image chip number)) image

abbrev HaveSizes : Type 0
HaveSizes = (chip : ChipName) (number : ℕ) → number ≤ 2000 → length (made_image chip number) ≤ text_limit

-- each made text gives an image, so its summary is told
pub made_lem : HaveNotBoth → EndedStay → EndedAreFaultless → HaveImages → HaveSizes
    → (chip : ChipName) (number : ℕ) (answered : Status) (input before after : Option (List ℕ)) (journal : List Event)
    → number ≤ 2000 → Answers (Gen chip number) answered input before after journal → (answered ≡ ReadFault → ⊥)
    → (answered ≡ WriteFault → ⊥)
    → Ends (Gen chip number) answered ⊎ (answered ≡ Memory)
made_lem both ended faultless images sizes chip.Msp430 number answered input before after journal few answers no_read no_write =
    let denotes = images chip.Msp430 number few in
    complete_lem both ended faultless (Gen chip.Msp430 number) answered input before after journal (made_image chip.Msp430 number) denotes.0 [] answers refl
    ((record { fits = sizes chip.Msp430 number few; denoted = denotes.1 }), refl) no_read no_write
made_lem both ended faultless images sizes chip.Mcs51 number answered input before after journal few answers no_read no_write =
    let denotes = images chip.Mcs51 number few in
    complete_lem both ended faultless (Gen chip.Mcs51 number) answered input before after journal (made_image chip.Mcs51 number) denotes.0 [] answers refl
    ((record { fits = sizes chip.Mcs51 number few; denoted = denotes.1 }), refl) no_read no_write
