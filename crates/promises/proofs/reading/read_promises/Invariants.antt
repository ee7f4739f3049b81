use Rattle.std.proofs.Common.{◌≤◌, ◌+◌, length}
use Rattle.promises.specs.Text.{promises_alone}
use Rattle.promises.specs.Told.{IsTold}
use Rattle.promises.proofs.Text.{IsRead}
use Rattle.promises.proofs.reading.read_promises.Given as goal

-- the promises so far, with their sites, and the rest of the text
abbrev pub invariant-loop-line : goal.invariant-loop-line
invariant-loop-line g l = record {
  told : IsTold l.reading.told (promises_alone l.reading.list.items);
  read : IsRead (g.S.Spoken.spoken l.image) l.text l.reading.list.items l.count l.rest;
  count : l.count + length l.rest ≤ length l.text;
}

abbrev pub decreases-loop-line : goal.decreases-loop-line
decreases-loop-line g l = length l.rest
