use Rattle.std.proofs.Common.{arith, sym}
use Rattle.value_text.proofs.RamLemmas.{byte_at, size_at, written_after}
use Rattle.value_text.proofs.ram.ram_of.Goals as goal

pub write_one-requires-clause-size : goal.write_one-requires-clause-size
write_one-requires-clause-size g c = size_at c.args.lo c.args.hi c.loop-cell.cell-index c.args.cells.now c.cell-item.result
    c.requires.are c.loop-cell-test.true (sym c.cell-item.is)

pub write_one-requires-clause-byte : goal.write_one-requires-clause-byte
write_one-requires-clause-byte g c = byte_at c.args.lo c.args.hi c.loop-cell.cell-index c.args.cells.now c.cell-item.result
    c.requires.are c.loop-cell-test.true (sym c.cell-item.is)

pub loop-cell-preserved : goal.loop-cell-preserved
loop-cell-preserved g c =
    written_after c.args.lo c.args.hi c.loop-cell.cell-index c.args.cells.now c.cell-item.result (g.M.Cells.map c.loop-cell.ram)
    (g.M.Cells.map c.write_one.new.self)
    (omega (arith, c.ranges.hi.fits)) c.requires.are c.loop-cell-test.true (sym c.cell-item.is) c.loop-cell.invariant c.in_ok-write_one.ensures.value
