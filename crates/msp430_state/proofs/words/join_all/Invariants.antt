use Rattle.std.proofs.Common.{◌≡◌, ◌++◌, take, drop, length}
use Rattle.entry_value.specs.Words.{word_join}
use Rattle.value_bits.specs.Pointwise.{each_with}
use Rattle.msp430_state.proofs.words.join_all.Given as goal

abbrev pub invariant-loop-i : goal.invariant-loop-i
invariant-loop-i l = record {
  made : take l.i l.words ++ each_with word_join (drop l.i l.held) (drop l.i l.new) ≡ each_with word_join l.held l.new;
  count : length l.words ≡ 12;
  held : length l.held ≡ 12;
}
