use Rattle.std.proofs.Common.{sym, subst}
use Rattle.vsa_top.specs.Answer.{IsReported}
use Rattle.vsa_top.proofs.reply.analysed.Goals as goal

pub returns : goal.returns
returns g c = λ workers made.
    let text_of = g.C.InstrText.text_of c.args.chip.now in
    let base = g.C.Chip.base c.args.chip.now in
    let m = g.C.Chip.analysis base in
    let texts = g.C.StateText.texts base in
    let status = c.in_ok-status.status in
    let text = c.in_ok-status.text.items in
    let journal = c.into_parts-journal.result.2.items in
    subst (λ t. IsReported text_of m texts workers c.args.cert status t journal) (sym c.from_bytes.ensures)
    (subst (λ j. IsReported text_of m texts workers c.args.cert status text j) (sym c.into_parts-journal.ensures.journal)
    (c.in_ok-status.ensures workers made))
