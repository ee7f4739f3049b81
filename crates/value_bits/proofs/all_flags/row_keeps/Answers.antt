use Rattle.std.proofs.Common.{Bool, ap, arith}
use Rattle.value_bits.specs.AllFlags.{flag_at}
use Rattle.value_bits.specs.Flags.{has_value}
use Rattle.value_bits.proofs.OneWalk.{walk_start, walk_more, walk_end, walk_stops}
use Rattle.value_bits.proofs.all_flags.row_keeps.Goals as goal

pub loop-y-init : goal.loop-y-init
loop-y-init g c = λ place. walk_start
    (λ y. has_value (flag_at place c.args.wanted) (g.F.AllFlags.value c.args.operation.now place c.args.x y c.args.carry))
    c.args.ys.now (flag_at place c.args.held)

pub returns-then-is_none : goal.returns-then-is_none
returns-then-is_none g c = λ place. walk_stops
    (λ y. has_value (flag_at place c.args.wanted) (g.F.AllFlags.value c.args.operation.now place c.args.x y c.args.carry))
    c.args.ys.now c.loop-y.y-index (flag_at place
    c.args.held) (flag_at place c.loop-y.left) (c.loop-y.invariant place) (c.is_none.ensures c.if-is_none.true place)

pub loop-y-preserved : goal.loop-y-preserved
loop-y-preserved g c = λ place. walk_more
    (λ y. has_value (flag_at place c.args.wanted) (g.F.AllFlags.value c.args.operation.now place c.args.x y c.args.carry))
    c.args.ys.now c.loop-y.y-index 0 (flag_at place c.args.held) (flag_at place c.loop-y.left)
    (has_value (flag_at place c.args.wanted) (flag_at place c.flags_of.result)) (flag_at place c.still-left.result)
    (omega arith) (c.loop-y.invariant place) (ap (λ (b : Bool). has_value (flag_at place
    c.args.wanted) b) (c.flags_of.ensures place)) (c.still-left.ensures place)

pub returns : goal.returns
returns g c = λ place. walk_end
    (λ y. has_value (flag_at place c.args.wanted) (g.F.AllFlags.value c.args.operation.now place c.args.x y c.args.carry))
    c.args.ys.now c.loop-y.y-index (flag_at place c.args.held) (flag_at place c.loop-y.left) (omega arith) (c.loop-y.invariant place)
