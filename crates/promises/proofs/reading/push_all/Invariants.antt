use Rattle.std.proofs.Common.{◌≡◌, ◌++◌, length}
use Rattle.std.specs.Prelude.{map}
use Rattle.std.specs.Vec.Iter.{into_iter_items, into_iter_len}
use Rattle.promises.proofs.reading.push_all.Given as goal

-- the list, and what is left
abbrev pub invariant-loop-promise : goal.invariant-loop-promise
invariant-loop-promise l = record {
  all : l.list.items ++ map (λ promise. (l.number, promise)) (into_iter_items l.promise-iterator)
      ≡ l.initial.list.items ++ map (λ promise. (l.number, promise)) (into_iter_items l.initial.promise-iterator);
  len : into_iter_len l.promise-iterator ≡ length (into_iter_items l.promise-iterator);
}
