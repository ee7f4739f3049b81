use Rattle.std.proofs.Common.{◌≡◌, ◌+◌, ◌<◌, ◌++◌, ◌∷◌, [], ◌∙◌, length, drop, sym, ap, arith}
use Rattle.entry_value.specs.Cells.{kept, cell_at}
use Rattle.abs_memory.specs.Joining.{made_with}
use Rattle.abs_memory.proofs.Places.{ascend_lower}
use Rattle.abs_memory.proofs.Passes.{follows_here, follows_on, pass_with, pass_without, pass_end}
use Rattle.abs_memory.proofs.joining.united.Goals as goal
use Rattle.abs_memory.proofs.joining.united.Goals.{in-Some+in_ok-push-in-Some, in-None}

pub loop-cell-preserved : goal.loop-cell-preserved
loop-cell-preserved g c =
    let before = c.loop-cell.invariant in
    let cell = c.cell-item.result in
    let index = c.loop-cell.cell-index in
    let held = c.args.held.now in
    let new = c.args.new.now in
    let all = c.loop-cell.all.items in
    let f = made_with (g.M.Making.made c.args.making.now) new in
    let lt : index < length held = c.loop-cell-test.true in
    let looked : c.first_at.result ≡ cell_at new cell.place cell.size =
    (rw c.from_place-others.ensures.value at c.first_at.ensures) ∙ follows_here new c.loop-cell.others.now held index cell lt c.cell-item.is before.follows in
    let made : f cell ≡ c.make.result = sym (c.make.ensures ∙ ap (g.M.Making.made c.args.making.now cell) looked) in
    let passed : c.match-make.all.items ++ kept f (drop (index + 1) held) ≡ kept f held =
    elim c.match-make.branch [
      | in-Some+in_ok-push-in-Some w ↦
          let items : c.match-make.all.items ≡ all ++ w.in-Some.both ∷ [] = ap (λ v. v.items) w.all-is ∙ w.in_ok-push-in-Some.ensures.items in
          ap (λ front. front ++ kept f (drop (index + 1) held)) items
          ∙ pass_with f held (kept f held) all index cell w.in-Some.both lt c.cell-item.is (made ∙ w.in-Some.is) before.passed
      | in-None w ↦
          let items : c.match-make.all.items ≡ all = ap (λ v. v.items) w.all-is in
          ap (λ front. front ++ kept f (drop (index + 1) held)) items
          ∙ pass_without f held (kept f held) all index cell lt c.cell-item.is (made ∙ w.in-None.is) before.passed
    ] in
    record {
      ascend = ascend_lower cell.place 0 c.from_place-others.result.now (omega arith) c.from_place-others.ensures.ascend;
      follows = rw c.from_place-others.ensures.value (follows_on new c.loop-cell.others.now held index cell lt c.cell-item.is before.follows);
      passed = passed;
    }

pub returns : goal.returns
returns g c =
    pass_end (made_with (g.M.Making.made c.args.making.now) c.args.new.now) c.args.held.now _ c.loop-cell.all.items
    c.loop-cell.cell-index c.loop-cell-test.false c.loop-cell.invariant.passed
