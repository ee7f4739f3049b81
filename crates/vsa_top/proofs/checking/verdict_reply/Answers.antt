use Rattle.std.proofs.Common.{◌∙◌, subst, sym}
use Rattle.cert_verdict.specs.Verdict.{IsVerdict}
use Rattle.vsa_top.specs.Answer.{IsChecked, IsJudged}
use Rattle.vsa_top.specs.Answer.IsChecked.{judged}
use Rattle.vsa_top.specs.Input.{begun_with}
use Rattle.vsa_top.proofs.AssertedLemmas.{if_whole}
use Rattle.vsa_top.proofs.checking.verdict_reply.Goals as goal

pub returns-in_ok-verdict-in-Ok-clause-reply : goal.returns-in_ok-verdict-in-Ok-clause-reply
returns-in_ok-verdict-in-Ok-clause-reply g c =
    let base = g.C.Chip.base c.args.chip.now in
    let text_of = g.C.InstrText.text_of c.args.chip.now in
    let a = g.C.Chip.analysis base in
    let texts = g.C.StateText.texts base in
    let second = begun_with c.args.begun.now (g.S.Source.left c.args.source.now) in
    let verdict = c.in_ok-verdict-in-Ok.verdict in
    let told = verdict.text.items in
    let is = subst (λ t. IsVerdict text_of a texts t verdict.is_closed told) c.as_slice.ensures.value c.in_ok-verdict-in-Ok.ensures in
    subst (IsChecked text_of a texts second c.text_reply.result.status) (sym c.text_reply.ensures.text)
    (judged verdict.is_closed
    (if_whole second c.in-Ok.text.items (λ t. IsJudged text_of a texts t verdict.is_closed told) c.in-Ok.ensures.text
    (record { fits = c.in-Ok.ensures.fits; verdict = is }))
    (c.text_reply.ensures.status ∙ c.status_of_verdict.ensures))
