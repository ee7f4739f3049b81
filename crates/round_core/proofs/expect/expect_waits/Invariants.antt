use Rattle.std.proofs.Common.{◌≡◌, take}
use Rattle.call_context.specs.declared.node.Frame.{Frame}
use Rattle.round_core.specs.Agenda.{IsIn, places_in, KeepsPlaces}
use Rattle.round_core.proofs.expect.expect_waits.Given as goal

abbrev pub invariant-loop-frame : goal.invariant-loop-frame
invariant-loop-frame l = record {
  added : (frame : Frame) → IsIn frame (take l.frame-index l.frames) → IsIn l.place (places_in l.agenda.waiting frame);
  kept : KeepsPlaces l.fn.agenda.waiting l.agenda.waiting;
  candidates : l.agenda.candidates ≡ l.fn.agenda.candidates;
  exits : l.agenda.exits ≡ l.fn.agenda.exits;
}
