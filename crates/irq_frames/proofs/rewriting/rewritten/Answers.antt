use Rattle.std.proofs.Common.{refl, sym, arith}
use Rattle.entry_value.specs.CellLists.{some_size}
use Rattle.irq_frames.proofs.Rewritten.{walk_begins, walk_ends, walk_goes_on}
use Rattle.irq_frames.proofs.rewriting.rewritten.Goals as goal

pub loop-cell-init : goal.loop-cell-init
loop-cell-init g c = walk_begins (g.R.Rewrites.made c.args.rewrites.now) (g.M.Cells.map c.args.cells.now) (g.M.Cells.map c.in_ok-all.all) c.in_ok-all.ensures

pub rewrite-requires : goal.rewrite-requires
rewrite-requires g c = c.in-Some.ensures.form c.in-Some.cell refl

pub loop-cell-smaller : goal.loop-cell-smaller
loop-cell-smaller g c =
    let cell = c.in-Some.cell in
    let form = c.in-Some.ensures.form cell refl in
    omega (arith, c.in-Some.ensures.from cell refl, some_size cell.size form.size, form.high)

pub loop-cell-preserved : goal.loop-cell-preserved
loop-cell-preserved g c =
    let held = g.M.Cells.map c.args.cells.now in
    walk_goes_on (g.R.Rewrites.made c.args.rewrites.now) c.loop-cell.from c.in-Some.cell held (g.M.Cells.map c.loop-cell.all) (g.M.Cells.map c.rewrite.new.all)
    c.in-Some.ensures.high c.in-Some.ensures.are (sym c.in-Some.ensures.value) c.loop-cell.invariant c.in_ok-rewrite.ensures

pub returns : goal.returns
returns g c = walk_ends (g.R.Rewrites.made c.args.rewrites.now) c.loop-cell.from (g.M.Cells.map c.args.cells.now) (g.M.Cells.map c.loop-cell.all)
    c.loop-cell.invariant (sym c.in_default.ensures.value)
