use Rattle.std.proofs.Common.{◌≡◌, take}
use Rattle.std.specs.Prelude.{◌&&◌}
use Rattle.std.specs.List.{list_all}
use Rattle.value_bits.specs.AllFlags.{Place, flag_at}
use Rattle.value_bits.specs.Flags.{has_value}
use Rattle.value_bits.proofs.all_flags.rows_keep.Given as goal

abbrev pub invariant-loop-x : goal.invariant-loop-x
invariant-loop-x g l = (place : Place) → flag_at place l.left
    ≡ (flag_at place l.fn.held && list_all (λ x. list_all
    (λ y. has_value (flag_at place l.wanted) (g.F.AllFlags.value l.operation place x y l.carry)) l.ys) (take l.x-index l.xs))
