use Rattle.std.proofs.Common.{◌≡◌, take}
use Rattle.std.specs.Prelude.{◌&&◌}
use Rattle.std.specs.List.{list_all}
use Rattle.value_bits.specs.AllFlags.{Place, flag_at}
use Rattle.value_bits.specs.Flags.{has_value}
use Rattle.value_bits.proofs.all_flags.row_keeps.Given as goal

abbrev pub invariant-loop-y : goal.invariant-loop-y
invariant-loop-y g l = (place : Place) → flag_at place l.left
    ≡ (flag_at place l.fn.held && list_all (λ y. has_value (flag_at place l.wanted) (g.F.AllFlags.value l.operation place l.x y l.carry)) (take l.y-index l.ys))
