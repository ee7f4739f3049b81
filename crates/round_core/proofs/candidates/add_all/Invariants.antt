use Rattle.std.proofs.Common.{take}
use Rattle.round_core.specs.declared.place.Place.{Place}
use Rattle.round_core.specs.Agenda.{IsIn, KeepsCandidates}
use Rattle.round_core.proofs.candidates.add_all.Given as goal

abbrev pub invariant-loop-place : goal.invariant-loop-place
invariant-loop-place l = record {
  added : (place : Place) → IsIn place (take l.place-index l.places) → IsIn place l.candidates.keys;
  kept : KeepsCandidates l.fn.candidates.keys l.candidates.keys;
}
