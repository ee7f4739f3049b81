use Rattle.std.proofs.Common.{◌≡◌, drop}
use Rattle.entry_value.specs.Words.{word_within}
use Rattle.value_bits.specs.Pointwise.{each_passes}
use Rattle.msp430_state.proofs.words.are_within.Given as goal

abbrev pub invariant-loop-i : goal.invariant-loop-i
invariant-loop-i l = each_passes word_within (drop l.i l.new) (drop l.i l.held) ≡ each_passes word_within l.new l.held
