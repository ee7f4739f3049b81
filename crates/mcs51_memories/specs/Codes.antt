-- What MOVC makes of what is known of a state (Intel, MCS-51 Programmer's Guide and Instruction Set: MOVC). It reads the program,
-- of which an image has some bytes; any other one is any.
use Rattle.std.specs.Prelude.{ℕ, nat_lt, if◌then◌else◌, false, Option, None, Some, List, [], ◌∷◌, length}
use Rattle.image.specs.Image.{byte_at}
use Rattle.call_context.specs.declared.shown.Item.{Item}
use Rattle.call_context.specs.declared.shown.Item.TheVariants.{Access}
use Rattle.call_context.specs.declared.shown.Set.TheVariants.{W}
use Rattle.chip_numbers.specs.declared.space.Space.TheVariants.{Code}
use Rattle.value_bits.specs.Sets.{pair_set}
use Rattle.value_set.specs.declared.form.Form.{Form}
use Rattle.value_set.specs.Form.{members}
use Rattle.value_set.specs.Summing.{add, single}
use Rattle.mcs51_decode.specs.declared.instr.CodeBase.{CodeBase}
use Rattle.mcs51_decode.specs.declared.instr.CodeBase.TheVariants.{ProgramCounter, DataPointer}
use Rattle.mcs51_state.specs.Known.{Known, any_byte, byte_of}
use Rattle.mcs51_state.specs.Joined.{any_of}
use Rattle.mcs51_state.specs.Operands.{jump_targets}
use Rattle.mcs51_state.specs.Writing.{accumulator_written}

-- BYTES OF THE PROGRAM

abbrev pub byte_set : Option ℕ → Form
byte_set None = any_byte
byte_set (Some byte) = single byte

abbrev pub code_set : List (Option ℕ) → (at : ℕ) → Form
code_set image at = byte_set (byte_at image at)

-- of more than 256 addresses nothing is read
unfoldable pub code_values : List (Option ℕ) → Form → Form
code_values image set = if nat_lt 256 (length (members 65536 set)) then any_byte else any_of (code_set image) (members 65536 set)

-- MOVC

-- A is added to the address behind the instruction, or to DPTR as JMP does it
abbrev pub code_addresses : CodeBase → (next : ℕ) → Known → Form
code_addresses ProgramCounter next a = add 65536 (single next) (pair_set a.a.set (single 0))
code_addresses DataPointer next a = jump_targets a

unfoldable pub code_loaded : List (Option ℕ) → CodeBase → (next : ℕ) → Known → Known
code_loaded image base next a = accumulator_written (byte_of (code_values image (code_addresses base next a))) a

abbrev pub code_items : (pc : ℕ) → CodeBase → (next : ℕ) → Known → List Item
code_items pc base next a = Access pc Code false 1 (W (code_addresses base next a)) ∷ []
