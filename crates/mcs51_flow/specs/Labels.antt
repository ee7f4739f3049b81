-- What instructions do to the call string.
use Rattle.chip_flow.specs.declared.calls.CallEffect.{CallEffect}
use Rattle.chip_flow.specs.declared.calls.CallEffect.TheVariants.{Pushes, Pops, Keeps}
use Rattle.mcs51_decode.specs.declared.instr.Instr.{Instr}
use Rattle.mcs51_decode.specs.declared.instr.Instr.TheVariants.{AbsoluteCall, LongCall, Return}

-- ACALL and LCALL are calls, and RET is a return; a RETI that doesn't go back is a jump
abbrev pub effect_on_calls : Instr → CallEffect
effect_on_calls (AbsoluteCall target) = Pushes
effect_on_calls (LongCall target) = Pushes
effect_on_calls Return = Pops
effect_on_calls other = Keeps
