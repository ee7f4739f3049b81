use Rattle.std.proofs.Common.{ℕ, ◌<◌, get_or}
use Rattle.round_core.specs.declared.place.Place.TheVariants.{Back}
use Rattle.round_core.specs.Agenda.{IsIn, KeepsCandidates}
use Rattle.round_core.proofs.candidates.add_returns_to.Given as goal

abbrev pub invariant-loop-exit : goal.invariant-loop-exit
invariant-loop-exit l = record {
  added : (i : ℕ) → i < l.exit-index → IsIn (Back l.node (get_or l.exits i 0)) l.candidates.keys;
  kept : KeepsCandidates l.fn.candidates.keys l.candidates.keys;
}
