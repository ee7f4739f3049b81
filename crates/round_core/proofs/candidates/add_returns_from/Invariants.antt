use Rattle.std.proofs.Common.{ℕ, ◌<◌, get_or}
use Rattle.round_core.specs.declared.place.Place.TheVariants.{Back}
use Rattle.round_core.specs.Agenda.{IsIn, KeepsCandidates}
use Rattle.round_core.proofs.candidates.add_returns_from.Given as goal

abbrev pub invariant-loop-node : goal.invariant-loop-node
invariant-loop-node l = record {
  added : (i : ℕ) → i < l.node-index → IsIn (Back (get_or l.nodes i 0) l.exit) l.candidates.keys;
  kept : KeepsCandidates l.fn.candidates.keys l.candidates.keys;
}
