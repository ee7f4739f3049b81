use Rattle.std.proofs.Common.{take}
use Rattle.call_context.specs.declared.node.Frame.{Frame}
use Rattle.round_core.specs.Agenda.{IsIn, places_in, KeepsCandidates}
use Rattle.round_core.specs.Returns.{HasReturnsTo}
use Rattle.round_core.proofs.expect.add_returns.Given as goal

abbrev pub invariant-loop-frame : goal.invariant-loop-frame
invariant-loop-frame l = record {
  added : (frame : Frame) → IsIn frame (take l.frame-index l.frames) → HasReturnsTo l.candidates.keys l.node (places_in l.exits frame);
  kept : KeepsCandidates l.fn.candidates.keys l.candidates.keys;
}
