use Rattle.std.proofs.Common.{sym}
use Rattle.abs_memory.proofs.Places.{first_alone}
use Rattle.abs_memory.proofs.finding.first_at.Goals as goal
use Rattle.abs_memory.proofs.finding.first_at.Goals.{else-cell-place-via-then-cell-place+else-cell-size, else-cell-place-via-else-cell-place}

pub returns-else-cell-place : goal.returns-else-cell-place
returns-else-cell-place c =
    let alone = first_alone c.args.place c.args.size c.args.cells.now c.in_ok-cell.cell.now c.requires (sym c.in_ok-cell.ensures.value) in
    elim c.else-cell-place.branch [
      | else-cell-place-via-then-cell-place+else-cell-size w ↦ alone (λ p s. w.if-cell-size.false s)
      | else-cell-place-via-else-cell-place w ↦ alone (λ p s. w.if-cell-place.false p)
    ]
