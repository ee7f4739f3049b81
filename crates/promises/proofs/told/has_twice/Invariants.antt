use Rattle.std.proofs.Common.{◌≡◌, ℕ, [], take, drop}
use Rattle.promises.specs.Text.{comes_again, is_same}
use Rattle.promises.specs.Told.{has}
use Rattle.promises.proofs.told.has_twice.Given as goal

-- the set has those so far, and what is left gives what all give
abbrev pub invariant-loop-number : goal.invariant-loop-number
invariant-loop-number l = record {
  seen : (n : ℕ) → has l.seen.keys n ≡ has (take l.number-index l.numbers) n;
  again : comes_again is_same [] l.numbers ≡ comes_again is_same (take l.number-index l.numbers) (drop l.number-index l.numbers);
}
