use Rattle.std.proofs.Common.{refl, arith}
use Rattle.std.specs.List.{list_all}
use Rattle.value_bits.specs.AllFlags.{flag_at}
use Rattle.value_bits.specs.Flags.{has_value}
use Rattle.value_bits.proofs.OneWalk.{walk_start, walk_more, walk_end, walk_stops}
use Rattle.value_bits.proofs.all_flags.rows_keep.Goals as goal

pub loop-x-init : goal.loop-x-init
loop-x-init g c = λ place. walk_start
    (λ x. list_all (λ y. has_value (flag_at place c.args.wanted) (g.F.AllFlags.value c.args.operation.now place x y c.args.carry)) c.args.ys.now)
    c.args.xs.now (flag_at place c.args.held)

pub returns-then-is_none : goal.returns-then-is_none
returns-then-is_none g c = λ place. walk_stops
    (λ x. list_all (λ y. has_value (flag_at place c.args.wanted) (g.F.AllFlags.value c.args.operation.now place x y c.args.carry)) c.args.ys.now)
    c.args.xs.now c.loop-x.x-index (flag_at place
    c.args.held) (flag_at place c.loop-x.left) (c.loop-x.invariant place) (c.is_none.ensures c.if-is_none.true place)

pub loop-x-preserved : goal.loop-x-preserved
loop-x-preserved g c = λ place. walk_more
    (λ x. list_all (λ y. has_value (flag_at place c.args.wanted) (g.F.AllFlags.value c.args.operation.now place x y c.args.carry)) c.args.ys.now)
    c.args.xs.now c.loop-x.x-index 0 (flag_at place c.args.held) (flag_at place c.loop-x.left)
    _ (flag_at place c.row_keeps-left.result)
    (omega arith) (c.loop-x.invariant place) refl (c.row_keeps-left.ensures place)

pub returns : goal.returns
returns g c = λ place. walk_end
    (λ x. list_all (λ y. has_value (flag_at place c.args.wanted) (g.F.AllFlags.value c.args.operation.now place x y c.args.carry)) c.args.ys.now)
    c.args.xs.now c.loop-x.x-index (flag_at place c.args.held) (flag_at place c.loop-x.left) (omega arith) (c.loop-x.invariant place)
