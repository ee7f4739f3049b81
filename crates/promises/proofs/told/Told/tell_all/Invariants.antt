use Rattle.std.proofs.Common.{◌≡◌, List, ◌++◌, take, drop}
use Rattle.promises.specs.declared.promise.Promise.{Promise}
use Rattle.promises.specs.Text.{comes_again, is_of_same}
use Rattle.promises.specs.Told.{IsTold}
use Rattle.promises.proofs.told.Told.tell_all.Given as goal

-- the sites of those so far were new, and what is left gives what all give
abbrev pub invariant-loop-promise : goal.invariant-loop-promise
invariant-loop-promise l = (earlier : List Promise) → IsTold l.fn.self earlier
    → IsTold l.self (earlier ++ take l.promise-index l.promises)
    × (comes_again is_of_same earlier l.promises ≡ comes_again is_of_same (earlier ++ take l.promise-index l.promises) (drop l.promise-index l.promises))
