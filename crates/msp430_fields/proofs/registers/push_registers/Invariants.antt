use Rattle.std.proofs.Common.{◌≡◌, ◌++◌, drop}
use Rattle.text_fields.specs.Fronts.{named_texts}
use Rattle.value_text.specs.Words.{word_text}
use Rattle.msp430_fields.specs.Places.{place_field}
use Rattle.msp430_fields.specs.States.{register_names}
use Rattle.msp430_fields.proofs.registers.push_registers.Given as goal

-- what is written, and the texts of those that are left, are all
abbrev pub invariant-loop-i : goal.invariant-loop-i
invariant-loop-i l = l.out.items ++ named_texts 32 (word_text 4 place_field) (drop l.i register_names) (drop l.i l.registers)
    ≡ l.fn.out.items ++ named_texts 32 (word_text 4 place_field) register_names l.registers
