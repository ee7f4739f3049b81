use Rattle.std.proofs.Common.{◌≡◌, ◌≤◌, ◌+◌, ◌++◌, length}
use Rattle.std.specs.List.{AllByRecursion}
use Rattle.std.specs.Prelude.{vec_len, vec_capacity}
use Rattle.fact_table.specs.Exchange.{IsWorked, tickets_of}
use Rattle.worker_crew.proofs.worker.work_on.Given as goal

abbrev pub invariant-loop-alloc : goal.invariant-loop-alloc
invariant-loop-alloc g l = record {
  whole : l.fn.tickets.items ≡ tickets_of l.done.items ++ l.left.items;
  works : AllByRecursion (IsWorked (g.C.Chip.analysis (g.C.Chip.base l.chip))) l.done.items;
  room : vec_len l.left + vec_len l.done ≤ vec_capacity l.done;
}

abbrev pub decreases-loop-alloc : goal.decreases-loop-alloc
decreases-loop-alloc g l = length l.left.items
