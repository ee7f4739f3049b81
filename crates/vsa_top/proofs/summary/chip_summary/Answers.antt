use Rattle.std.proofs.Common.{sym, subst}
use Rattle.vsa_top.specs.Answer.{IsSummary}
use Rattle.vsa_top.proofs.summary.chip_summary.Goals as goal

pub returns : goal.returns
returns g c =
    let text_of = g.C.InstrText.text_of c.args.program.now in
    let m = g.C.Chip.analysis (g.C.Chip.base c.args.program.now) in
    let chip = c.args.chip in
    let number = c.args.number in
    let status = c.in_ok-status.status in
    let text = c.in_ok-status.text.items in
    let journal = c.into_parts-journal.result.2.items in
    subst (λ t. IsSummary text_of m chip number status t journal) (sym c.from_bytes.ensures)
    (subst (λ j. IsSummary text_of m chip number status text j) (sym c.into_parts-journal.ensures.journal) c.in_ok-status.ensures)
