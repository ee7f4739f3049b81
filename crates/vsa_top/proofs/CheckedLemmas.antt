-- A text gives one image and one second text, and the answer to a certificate is the verdict on that one.
use Rattle.std.proofs.Common.{◌≡◌, ◌++◌, ◌<◌, ◌≤◌, ℕ, take, drop, Option, None, Some, List, [], length, sym, ap, subst, ◌∙◌, inl, inr, arith}
use Rattle.std.specs.Prelude.{◌⊎◌, ◌↔◌, true, IfSome}
use Rattle.std.proofs.Math.Seq.{take-append_seam, drop-append_seam}
use Rattle.std.proofs.lemmas.Bool.{cases_order}
use Rattle.std.proofs.lemmas.List.{length-append, take-append-le}
use Rattle.std.proofs.lemmas.Option.{same_Some}
use Rattle.image.specs.declared.rule_set.Rules.{Rules}
use Rattle.image.specs.declared.tail.Tail.TheVariants.{Second}
use Rattle.ihex_read.specs.ImageText.{Denotes}
use Rattle.text_lines.specs.Lines as texts
use Rattle.ihex_read.specs.Reading.{HasEnded}
use Rattle.book_rules.specs.declared.event.Event.{Event}
use Rattle.analysis_limits.specs.declared.limits.Limits.{Limits}
use Rattle.cert_verdict.specs.Verdict.{IsVerdict}
use Rattle.image.specs.Kept.{IsRamRange}
use Rattle.vsa_top.specs.Certified.{IsClosedCertOf}
use Rattle.vsa_top.specs.Family.{family_of}
use Rattle.vsa_top.specs.Laws.{IsGiven}
use Rattle.vsa_top.specs.Scripts.{second_limit}
use Rattle.vsa_words.specs.declared.reading.Target.{Target}
use Rattle.vsa_top.specs.Answer.IsChecked.{judged, lengthy}
use Rattle.vsa_top.proofs.LawsLemmas.{HaveOnes, HaveTruths}
use Rattle.vsa_top.specs.Answer.{Answers, IsCheckedOn, IsReply, IsVerdictOn, status_of_verdict}
use Rattle.vsa_top.specs.Answer.Answers.{replied, unreplied}
use Rattle.vsa_top.specs.Answer.IsReply.{of_image, of_bad, of_long}
use Rattle.vsa_top.specs.Answer.IsWritten.{whole, cut}
use Rattle.vsa_top.specs.Input.{AreTexts, Gives, InputGives, IsBad, IsTooLong}
use Rattle.vsa_words.specs.Words.{EndsInMemory, IsBounded, target_rules}
use Rattle.vsa_top.specs.declared.outcome.Status.{Status}
use Rattle.vsa_top.specs.declared.outcome.Status.TheVariants.{Done, ReadFault, WriteFault, Memory}
use Rattle.vsa_words.specs.declared.reading.Reading.TheVariants.{Check}
use Rattle.vsa_words.specs.declared.reading.Task.{Task}
use Rattle.vsa_top.proofs.HeadlineLemmas.{EndedAreFaultless, EndedStay, HaveNotBoth, HaveOneImage, HaveRules, closed_verdict, not_bad, not_long}

-- ONE WAY TO CUT A TEXT

-- the front of a text of this length
front_is : (front second text : List ℕ) → text ≡ front ++ second → take (length front) text ≡ front
front_is front second text joins = ap (take (length front)) joins ∙ take-append_seam front second

behind_is : (front second text : List ℕ) → text ≡ front ++ second → drop (length front) text ≡ second
behind_is front second text joins = ap (drop (length front)) joins ∙ drop-append_seam front second

-- an image text ends at the first place where it may
not_shorter : (rules : Rules) (text : List ℕ) (image other : List (Option ℕ)) (second more : List ℕ)
    → (is : AreTexts rules text image second)
    → (so : AreTexts rules text other more) → (second ≡ []) ⊎ HasEnded rules is.front → length is.front < length so.front → ⊥
not_shorter rules text image other second more is so (inl none) less =
    let here : length text ≡ length is.front = ap length (is.whole ∙ ap (λ t. is.front ++ t) none) ∙ length-append is.front [] ∙ omega arith in
    let there = ap length so.whole ∙ length-append so.front more in
    omega (arith, here, there, less)
not_shorter rules text image other second more is so (inr ended) less =
    let short : length is.front ≤ length so.front = omega (arith, less) in
    let same : take (length is.front) so.front ≡ is.front =
    sym (take-append-le (length is.front) so.front more short) ∙ ap (take (length is.front)) (sym so.whole) ∙ front_is is.front second text is.whole in
    so.first (length is.front) less (subst (HasEnded rules) (sym same) ended)

fronts_same : (rules : Rules) (text : List ℕ) (image other : List (Option ℕ)) (second more : List ℕ)
    → (is : AreTexts rules text image second)
    → (so : AreTexts rules text other more) → length is.front ≡ length so.front
fronts_same rules text image other second more is so = elim (cases_order (length is.front) (length so.front)) [
  | inl same ↦ same
  | inr (inl less) ↦ absurd (not_shorter rules text image other second more is so is.ends less)
  | inr (inr more_so) ↦ absurd (not_shorter rules text other image more second so is so.ends more_so)
]

-- the image and the second text that a text gives
pub one_pair : HaveOneImage → (rules : Rules) (text : List ℕ) (image other : List (Option ℕ)) (second more : List ℕ)
    → AreTexts rules text image second
    → AreTexts rules text other more → (image ≡ other) × (second ≡ more)
one_pair one rules text image other second more is so =
    let size = fronts_same rules text image other second more is so in
    let front : is.front ≡ so.front =
    sym (front_is is.front second text is.whole) ∙ ap (λ n. take n text) size ∙ front_is so.front more text so.whole in (
      one rules Second (texts.lines_of so.front) image other (subst (λ t. Denotes rules Second (texts.lines_of t) image) front is.denoted) so.denoted,
      sym (behind_is is.front second text is.whole) ∙ ap (λ n. drop n text) size ∙ behind_is so.front more text so.whole,
    )

-- THE ANSWER

given_pair : HaveOneImage
    → (rules : Rules) (input second : Option (List ℕ)) (text certificate : List ℕ) (image other : List (Option ℕ))
    → input ≡ Some text
    → InputGives rules Second input second other → AreTexts rules text image certificate → (other ≡ image) × (second ≡ Some certificate)
given_pair one rules None second text certificate image other e gives is = absurd (cc)
given_pair one rules (Some read) second text certificate image other e gives is =
    let same : read ≡ text = same_Some read text e in
    let both = one_pair one rules text other image gives.0 certificate (subst (λ t. AreTexts rules t other gives.0) same gives.2) is in
    (both.0, gives.1 ∙ ap Some both.1)

verdict_reply : HaveNotBoth → EndedStay → EndedAreFaultless → HaveOneImage → (task : Task) (answered : Status) (input : Option (List ℕ))
    (told : List ℕ) (journal : List Event) (text certificate : List ℕ) (image : List (Option ℕ))
    → IsReply (Check task) input answered told journal
    → input ≡ Some text → Gives (target_rules task.target) Second text image certificate
    → IsCheckedOn task.target task.limits image (Some certificate) answered told
verdict_reply both stay faultless one task answered input told journal text certificate image (of_image other second gives reply) e is =
    let pair = given_pair one (target_rules task.target) input second text certificate image other e gives is in
    subst (λ s. IsCheckedOn task.target task.limits image s answered told) pair.1
    (subst (λ i. IsCheckedOn task.target task.limits i second answered told) pair.0 reply.0)
verdict_reply both stay faultless one task answered input told journal text certificate image (of_bad line fault bad status_is line_is none) e is =
    let rules = target_rules task.target in
    absurd (not_bad both stay faultless rules Second text image certificate line fault is (subst (λ i. IfSome i (λ t. IsBad rules Second t line fault)) e bad))
verdict_reply both stay faultless one task answered input told journal text certificate image (of_long long status_is line_is none) e is =
    let rules = target_rules task.target in
    absurd (not_long stay rules Second text image certificate is (subst (λ i. IfSome i (IsTooLong rules Second)) e long))

pub verdict_lem : HaveNotBoth → EndedStay → EndedAreFaultless → HaveOneImage
    → (task : Task) (answered : Status) (input before after : Option (List ℕ))
    (journal : List Event) (text certificate : List ℕ) (image : List (Option ℕ)) → Answers (Check task) answered input before after journal
    → input ≡ Some text → Gives (target_rules task.target) Second text image certificate → (answered ≡ ReadFault → ⊥)
    → (answered ≡ WriteFault → ⊥)
    → IsVerdictOn task image certificate answered before after ⊎ (answered ≡ Memory)
verdict_lem both stay faultless one task answered input before after journal text certificate image (replied reply told is (whole same held)) e gives
    no_read no_write =
    let checked = verdict_reply both stay faultless one task reply input told journal text certificate image is e gives in
    inl (record {
      told = told;
      checked = subst (λ s. IsCheckedOn task.target task.limits image (Some certificate) s told) (sym same) checked;
      written = held;
    })
verdict_lem both stay faultless one task answered input before after journal text certificate image (replied reply told is (cut fault held)) e gives
    no_read no_write =
    absurd (no_write fault)
verdict_lem both stay faultless one task answered input before after journal text certificate image (unreplied (inl fault) kept none) e gives
    no_read no_write =
    absurd (no_read fault)
verdict_lem both stay faultless one task answered input before after journal text certificate image (unreplied (inr memory) kept none) e gives
    no_read no_write =
    inr memory

-- THE CERTIFICATE OF A CLOSED TABLE

-- a text that has the verdict of a closed table gets its report
pub told_by : HaveOnes → (target : Target) (limits : Limits) (image : List (Option ℕ)) (certificate report : List ℕ) (answered : Status) (told : List ℕ)
    → (let f = family_of target image in IsVerdict f.text_of (f.analysis limits) f.texts certificate true report)
    → length certificate ≤ second_limit → IsCheckedOn target limits image (Some certificate) answered told
    → (answered ≡ Done) × (told ≡ report)
told_by ones target limits image certificate report answered told verdict fits (judged closed is status_is) =
    let same = (ones target limits image).verdict certificate closed true told report is.verdict verdict in
    (status_is ∙ ap status_of_verdict same.0, same.1)
told_by ones target limits image certificate report answered told verdict fits (lengthy longer status_is line_is) = absurd (omega (arith, fits, longer))

checked_exactly : HaveTruths → HaveOnes → (target : Target) (limits : Limits) (image : List (Option ℕ)) (certificate : List ℕ) (answered : Status)
    (told : List ℕ) → IsGiven target limits image → length certificate ≤ second_limit
    → IsCheckedOn target limits image (Some certificate) answered told → (answered ≡ Done) ↔ IsClosedCertOf target limits image certificate
checked_exactly truths ones target limits image certificate answered told given fits checked =
    let f = family_of target image in
    let true_of = truths target limits image given in (
      (λ done. true_of.closes certificate told
          (closed_verdict f.text_of (f.analysis limits) f.texts (Some certificate) told
          (subst (λ a. IsCheckedOn target limits image (Some certificate) a told) done checked))),
      (λ is. let verdict = true_of.accepts certificate is in
          (told_by ones target limits image certificate verdict.0 answered told verdict.1 fits checked).0),
    )

-- an image that stands in front of a second text is given
pub given_before : HaveRules → (task : Task) (text second : List ℕ) (image : List (Option ℕ)) → IsRamRange (target_rules task.target)
    → EndsInMemory (target_rules task.target) → IsBounded (Check task)
    → AreTexts (target_rules task.target) text image second → IsGiven task.target task.limits image
given_before rules task text second image range end few gives = record {
  read = rules (target_rules task.target) Second (texts.lines_of gives.front) image gives.denoted;
  ram = range;
  top = end;
  calls = few.0;
}

pub exact_lem : HaveTruths → HaveOnes → HaveRules → HaveNotBoth → EndedStay → EndedAreFaultless → HaveOneImage
    → (task : Task) (answered : Status) (input before after : Option (List ℕ))
    (journal : List Event) (text certificate : List ℕ) (image : List (Option ℕ))
    → IsRamRange (target_rules task.target) → EndsInMemory (target_rules task.target) → IsBounded (Check task)
    → Answers (Check task) answered input before after journal
    → input ≡ Some text → Gives (target_rules task.target) Second text image certificate → length certificate ≤ second_limit
    → (answered ≡ ReadFault → ⊥) → (answered ≡ WriteFault → ⊥)
    → ((answered ≡ Done) ↔ IsClosedCertOf task.target task.limits image certificate) ⊎ (answered ≡ Memory)
exact_lem truths ones rules both stay faultless one task answered input before after journal text certificate image range end few answers e gives fits
    no_read no_write = elim (verdict_lem both stay faultless one task answered input before after journal text certificate image answers e gives no_read no_write) [
      | inr memory ↦ inr memory
      | inl verdict ↦ inl (checked_exactly truths ones task.target task.limits image certificate answered verdict.told
          (given_before rules task text certificate image range end few gives) fits verdict.checked)
    ]
