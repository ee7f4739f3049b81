use Rattle.std.proofs.Common.{◌≡◌, length}
use Rattle.round_core.specs.Shown.{StaysShown}
use Rattle.round_core.proofs.parts.Parts.first.Given as goal

abbrev pub invariant-loop-place : goal.invariant-loop-place
invariant-loop-place g l = record {
  shown : StaysShown l.fn.self l.self;
  turns : l.self.turns ≡ l.fn.self.turns;
}

abbrev pub decreases-loop-place : goal.decreases-loop-place
decreases-loop-place g l = length l.self.agenda.candidates.keys
