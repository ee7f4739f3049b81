use Rattle.std.proofs.Common.{refl, arith}
use Rattle.std.specs.List.{list_all}
use Rattle.value_bits.specs.AllFlags.{flag_at}
use Rattle.value_bits.specs.Flags.{has_value}
use Rattle.value_bits.proofs.OneWalk.{walk_start, walk_more, walk_end, walk_stops}
use Rattle.value_bits.proofs.all_flags.carries_keep.Goals as goal

pub loop-carry-init : goal.loop-carry-init
loop-carry-init g c = λ place. walk_start
    (λ z. list_all (λ x. list_all (λ y. has_value (flag_at place c.args.wanted) (g.F.AllFlags.value c.args.operation.now place x y z))
    c.args.ys.now) c.args.xs.now)
    c.args.carries.now (flag_at place c.args.held)

pub returns-then-is_none : goal.returns-then-is_none
returns-then-is_none g c = λ place. walk_stops
    (λ z. list_all (λ x. list_all (λ y. has_value (flag_at place c.args.wanted) (g.F.AllFlags.value c.args.operation.now place x y z))
    c.args.ys.now) c.args.xs.now)
    c.args.carries.now c.loop-carry.carry-index (flag_at place
    c.args.held) (flag_at place c.loop-carry.left) (c.loop-carry.invariant place) (c.is_none.ensures c.if-is_none.true place)

pub loop-carry-preserved : goal.loop-carry-preserved
loop-carry-preserved g c = λ place. walk_more
    (λ z. list_all (λ x. list_all (λ y. has_value (flag_at place c.args.wanted) (g.F.AllFlags.value c.args.operation.now place x y z))
    c.args.ys.now) c.args.xs.now)
    c.args.carries.now c.loop-carry.carry-index 0 (flag_at place c.args.held) (flag_at place c.loop-carry.left)
    _ (flag_at place c.rows_keep-left.result)
    (omega arith) (c.loop-carry.invariant place) refl (c.rows_keep-left.ensures place)

pub returns : goal.returns
returns g c = λ place. walk_end
    (λ z. list_all (λ x. list_all (λ y. has_value (flag_at place c.args.wanted) (g.F.AllFlags.value c.args.operation.now place x y z))
    c.args.ys.now) c.args.xs.now)
    c.args.carries.now c.loop-carry.carry-index (flag_at place c.args.held) (flag_at place c.loop-carry.left) (omega arith) (c.loop-carry.invariant place)
