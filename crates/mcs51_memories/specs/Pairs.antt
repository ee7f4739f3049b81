-- What instructions that write two registers make of what is known of a state (Intel, MCS-51 Programmer's Guide and Instruction
-- Set: MOV and INC of DPTR, MUL and DIV).
use Rattle.std.specs.Prelude.{ℕ, ◌/◌, ◌%◌}
use Rattle.value_set.specs.Summing.{single}
use Rattle.mcs51_state.specs.Known.{Known, byte_of}
use Rattle.mcs51_results.specs.declared.made.MadePair.{MadePair}
use Rattle.mcs51_results.specs.Results.{divided_made, multiplied_made, pointer_increased}
use Rattle.mcs51_state.specs.Writing.{accumulator_written, data_pointer_written, status_written}

-- DPTR

unfoldable pub pointer_loaded : (value : ℕ) → Known → Known
pointer_loaded value a = data_pointer_written (byte_of (single (value % 256))) (byte_of (single (value / 256))) a

unfoldable pub pointer_raised : Known → Known
pointer_raised a = data_pointer_written (pointer_increased a.dpl a.dph).0 (pointer_increased a.dpl a.dph).1 a

-- THE ACCUMULATOR AND B. No fact of the accumulator or of CY stays.

abbrev pub with_pair : MadePair → Known → Known
with_pair made a = accumulator_written made.a (record (status_written made.psw a) { b = made.b })

unfoldable pub multiplied_known : Known → Known
multiplied_known a = with_pair (multiplied_made a.a a.b a.psw) a

unfoldable pub divided_known : Known → Known
divided_known a = with_pair (divided_made a.a a.b a.psw) a
