-- Words that registers and memory hold, as numbers of a width.
use Rattle.std.specs.Prelude.{Option, None}
use Rattle.entry_value.specs.declared.word.Entry.{Entry}
use Rattle.entry_value.specs.declared.word.Word.{Word}
use Rattle.value_set.specs.declared.form.Form.{Form}
use Rattle.value_set.specs.Summing.{single}
use Rattle.value_bits.specs.Sets.{low_set, pair_set}
use Rattle.msp430_decode.specs.declared.instr.Width.{Width}
use Rattle.msp430_decode.specs.declared.instr.Width.TheVariants.{Word as Words, Byte}

-- the numbers of the width: a byte operand is the low byte
abbrev pub values_of : Width → Word → Form
values_of Words word = word.set
values_of Byte word = low_set word.set

-- a byte result has the high byte 0 and no relation
abbrev pub written_word : Width → Form → Option Entry → Word
written_word Words set entry = record { set = set; entry = entry }
written_word Byte set entry = record { set = pair_set set (single 0); entry = None }
