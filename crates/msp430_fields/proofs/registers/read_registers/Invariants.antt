use Rattle.std.proofs.Common.{◌≡◌, length, take, drop}
use Rattle.text_fields.specs.Fronts.{each_in_front}
use Rattle.msp430_fields.specs.Parts.{register_value}
use Rattle.msp430_fields.specs.States.{register_names}
use Rattle.msp430_fields.proofs.RegisterLemmas.{onto}
use Rattle.msp430_fields.proofs.registers.read_registers.Given as goal

-- the registers so far, and those of the rest, are all
abbrev pub invariant-loop-i : goal.invariant-loop-i
invariant-loop-i l = (length l.registers ≡ 12)
    × (each_in_front 32 (register_value l.fn.framed) register_names l.text
    ≡ onto (take l.i l.registers) (each_in_front 32 (register_value l.fn.framed) (drop l.i register_names) l.rest))
