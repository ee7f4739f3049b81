-- What MOVX makes of what is known of a state (Intel, MCS-51 Programmer's Guide and Instruction Set: MOVX). Of external RAM nothing
-- is known: it reads as any byte, and a write is held nowhere.
use Rattle.std.specs.Prelude.{ℕ, Bool, List, [], ◌∷◌, ◌++◌}
use Rattle.call_context.specs.declared.shown.Item.{Item}
use Rattle.call_context.specs.declared.shown.Item.TheVariants.{Access}
use Rattle.call_context.specs.declared.shown.Set.TheVariants.{W}
use Rattle.chip_numbers.specs.declared.space.Space.TheVariants.{Xram}
use Rattle.value_bits.specs.Sets.{pair_set}
use Rattle.value_set.specs.declared.form.Form.{Form}
use Rattle.mcs51_decode.specs.declared.instr.External.{External}
use Rattle.mcs51_decode.specs.declared.instr.External.TheVariants.{DataPointer, Indirect}
use Rattle.mcs51_decode.specs.declared.instr.Working.TheVariants.{Indirect as At}
use Rattle.mcs51_state.specs.Known.{Known, any_byte, byte_of}
use Rattle.mcs51_state.specs.Operands.{pointed_addresses}
use Rattle.mcs51_state.specs.Showing.{pointer_accesses}
use Rattle.mcs51_state.specs.Writing.{accumulator_written}

-- by @Ri the high byte is any
abbrev pub external_addresses : External → Known → Form
external_addresses DataPointer a = pair_set a.dpl.set a.dph.set
external_addresses (Indirect i) a = pair_set (pointed_addresses a i) any_byte

-- @Ri reads the register
abbrev pub register_items : (pc : ℕ) → External → Known → List Item
register_items pc DataPointer a = []
register_items pc (Indirect i) a = pointer_accesses pc a (At i)

abbrev pub external_items : (pc : ℕ) → (write : Bool) → External → Known → List Item
external_items pc write external a = register_items pc external a ++ Access pc Xram write 1 (W (external_addresses external a)) ∷ []

-- MOVX to A
unfoldable pub external_loaded : Known → Known
external_loaded a = accumulator_written (byte_of any_byte) a
