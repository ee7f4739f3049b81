-- Where an instruction goes on, by what is known there.
use Rattle.std.specs.Prelude.{ℕ, if◌then◌else◌, Bool, false}
use Rattle.call_context.specs.declared.node.Frame.{Frame}
use Rattle.chip_flow.specs.Going.{limited}
use Rattle.chip_flow.specs.declared.going.Onward.{Onward}
use Rattle.chip_flow.specs.declared.going.Onward.TheVariants as onward
use Rattle.mcs51_decode.specs.declared.instr.Instr.{Instr}
use Rattle.mcs51_decode.specs.declared.instr.Instr.TheVariants.{ReturnFromInterrupt}
use Rattle.mcs51_state.specs.Known.{Known, is_interrupt}
use Rattle.mcs51_control.specs.Returning.{goes_back}
use Rattle.mcs51_flow.specs.declared.ran.Way.{Way}
use Rattle.mcs51_flow.specs.declared.ran.Way.TheVariants.{Lands, Goes}

-- RETI that goes back to where the interrupt of its frame came
abbrev pub leaves_frame : Frame → Known → Instr → Bool
leaves_frame frame a ReturnFromInterrupt = goes_back (is_interrupt frame) frame a
leaves_frame frame a other = false

-- no jump with two ways is a return
abbrev pub onward_by : Way Known → (leaves : Bool) → (limit behind : ℕ) → Onward Known
onward_by (Lands targets a) leaves limit behind = if leaves then onward.Leaves a else limited limit targets (onward.Lands targets a)
onward_by (Goes target on jumped) leaves limit behind = onward.Jumps behind target on jumped
