use Rattle.std.proofs.Common.{◌≡◌, ◌∙◌, sym, ap, arith}
use Rattle.entry_value.specs.Cells.{cell_at, is_found_within}
use Rattle.abs_memory.proofs.Places.{ascend_lower}
use Rattle.abs_memory.proofs.Passes.{follows_here, follows_on, within_here}
use Rattle.abs_memory.proofs.joining.are_within.Goals as goal
use Rattle.abs_memory.proofs.joining.are_within.Goals.{After-is_found_within}

-- what was tested is the cell of the new list that stands where this one does
tested : (c : After-is_found_within) → let cell = c.cell-item.result in is_found_within (cell_at c.args.new.now cell.place cell.size) cell.word ≡ c.is_found_within.result
tested c =
    let cell = c.cell-item.result in
    let looked : c.first_at.result ≡ cell_at c.args.new.now cell.place cell.size =
    (rw c.from_place-others.ensures.value at c.first_at.ensures)
    ∙ follows_here c.args.new.now c.loop-cell.others.now c.args.held.now c.loop-cell.cell-index cell c.loop-cell-test.true c.cell-item.is c.loop-cell.invariant.follows in
    sym (c.is_found_within.ensures ∙ ap (λ one. is_found_within one cell.word) looked)

pub returns-then-not-is_found_within : goal.returns-then-not-is_found_within
returns-then-not-is_found_within c =
    let outside = tested (goal.at.returns-then-not-is_found_within c).After-is_found_within ∙ c.if-not-is_found_within.true in
    sym (within_here c.args.new.now c.args.held.now c.loop-cell.cell-index c.cell-item.result _ c.loop-cell-test.true c.cell-item.is outside) ∙ c.loop-cell.invariant.passed

pub loop-cell-preserved : goal.loop-cell-preserved
loop-cell-preserved c =
    let cell = c.cell-item.result in
    let index = c.loop-cell.cell-index in
    let inside = tested (goal.at.loop-cell-preserved c).After-is_found_within ∙ c.if-not-is_found_within.false in
    record {
      ascend = ascend_lower cell.place 0 c.from_place-others.result.now (omega arith) c.from_place-others.ensures.ascend;
      follows = rw c.from_place-others.ensures.value
          (follows_on c.args.new.now c.loop-cell.others.now c.args.held.now index cell c.loop-cell-test.true c.cell-item.is c.loop-cell.invariant.follows);
      passed = sym (within_here c.args.new.now c.args.held.now index cell _ c.loop-cell-test.true c.cell-item.is inside) ∙ c.loop-cell.invariant.passed;
    }
