use Rattle.std.proofs.Common.{◌++◌, ap, ap₂, ◌∙◌, map}
use Rattle.std.specs.List.{flat_map}
use Rattle.cert_check.proofs.ExitsLemmas.{due_returns}
use Rattle.cert_check.proofs.walk.returns_of.Goals as goal
use Rattle.cert_check.specs.Exits.{returned}
use Rattle.cert_check.specs.Refusal.{first_of, unit_refusal, worked}

pub loop-exit-init : goal.loop-exit-init
loop-exit-init g c =
    let b = g.C.Chip.base c.args.chip.now in
    let a = g.C.Chip.analysis b in
    let row = c.args.row.now in
    let same = ap (flat_map (returned row.0 row.1)) c.in_ok-due.ensures ∙ due_returns row.0 row.1 c.args.waits.now c.args.exits.now in (
      ap (first_of (unit_refusal a (g.C.StateText.texts b).outside c.args.table.now c.args.line)) same,
      ap₂ (λ before inputs. before ++ map (worked a) inputs) c.new-works.ensures.items same,
    )
