use Rattle.std.specs.Prelude.{IfSome}
use Rattle.vsa_top.specs.Asserted.{AreAsserted, LacksAssertions, refusal_of, unread_of}
use Rattle.vsa_top.specs.Input.{begun_with}
use Rattle.vsa_top.proofs.AssertedLemmas.{if_whole, lacks_unread, lacks_whole}
use Rattle.vsa_top.proofs.InputLemmas.{IfErr-is}
use Rattle.vsa_top.proofs.second.assertions_in.Goals as goal

pub returns-in_err-text-clause-refused : goal.returns-in_err-text-clause-refused
returns-in_err-text-clause-refused g c =
    let second = begun_with c.args.begun.now (g.S.Source.left c.args.source.now) in
    IfErr-is c.from_residual.result (unread_of c.in_err-text.field-0.0) (λ error. IfSome second (λ t. LacksAssertions c.args.spaces.now t error)) c.from_residual.ensures.1
    (lacks_unread c.args.spaces.now second c.in_err-text.field-0.0 c.in_err-text.ensures.long)

pub returns-in_err-read_lines-clause-refused : goal.returns-in_err-read_lines-clause-refused
returns-in_err-read_lines-clause-refused g c =
    let second = begun_with c.args.begun.now (g.S.Source.left c.args.source.now) in
    let error = c.in_err-read_lines.field-0.0 in
    IfErr-is c.from_residual-in_err-read_lines.result (refusal_of error) (λ e. IfSome second (λ t. LacksAssertions c.args.spaces.now t e))
    c.from_residual-in_err-read_lines.ensures.1
    (lacks_whole c.args.spaces.now second c.in_ok-text.text.items error c.in_ok-text.ensures.text c.in_ok-text.ensures.fits
    (rw c.as_slice.ensures.value at c.in_err-read_lines.ensures.refused))

pub returns-clause-list : goal.returns-clause-list
returns-clause-list g c =
    let second = begun_with c.args.begun.now (g.S.Source.left c.args.source.now) in
    if_whole second c.in_ok-text.text.items (λ t. AreAsserted c.args.spaces.now t c.in_ok-read_lines.field-0.items) c.in_ok-text.ensures.text
    (record { fits = c.in_ok-text.ensures.fits; read = rw c.as_slice.ensures.value at c.in_ok-read_lines.ensures.list })
