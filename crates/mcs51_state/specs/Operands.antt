-- Where the operands of an instruction may stand, by what is known of a state (Intel, MCS-51 Programmer's Guide and
-- Instruction Set, "Addressing Modes" and "Register Banks").
use Rattle.std.specs.Prelude.{ℕ, List, [], ◌∷◌, slice_index_or}
use Rattle.value_bits.specs.declared.tri.Tri.{Tri}
use Rattle.value_bits.specs.declared.tri.Tri.TheVariants.{Zero, Either}
use Rattle.value_bits.specs.Bits.{from_bits}
use Rattle.value_bits.specs.Sets.{pair_set}
use Rattle.value_set.specs.declared.form.Form.{Form}
use Rattle.value_set.specs.Summing.{add, single}
use Rattle.mcs51_decode.specs.declared.instr.Memory.{Memory}
use Rattle.mcs51_decode.specs.declared.instr.Memory.TheVariants.{Direct, Working as InWorking}
use Rattle.mcs51_decode.specs.declared.instr.Pointer.{Pointer}
use Rattle.mcs51_decode.specs.declared.instr.Working.{Working}
use Rattle.mcs51_decode.specs.declared.instr.Working.TheVariants.{Indirect, Register}
use Rattle.mcs51_decode.specs.Encoding.{pointer_number, register_number}
use Rattle.mcs51_chip.specs.declared.place.Address.{Address}
use Rattle.mcs51_chip.specs.declared.place.Address.TheVariants.{InRam as AtRam, InSfr as AtSfr}
use Rattle.mcs51_chip.specs.Memory.{bit_address, direct_address}
use Rattle.mcs51_state.specs.declared.addresses.Addresses.{Addresses}
use Rattle.mcs51_state.specs.declared.addresses.Addresses.TheVariants.{InRam, InSfr}
use Rattle.mcs51_state.specs.Known.{Known}
use Rattle.mcs51_state.specs.Reading.{ram_values}

-- WORKING REGISTERS

-- RS0 and RS1, from the bits 7 to 2 of PSW, at their places in the address of R0
abbrev pub bank_bits : List Tri → List Tri
bank_bits bits = Zero ∷ Zero ∷ Zero ∷ slice_index_or bits 1 Either ∷ slice_index_or bits 2 Either ∷ Zero ∷ Zero ∷ Zero ∷ []

-- where R0 stands: the banks lie at 0, 8, 16 and 24
abbrev pub bank_of : List Tri → Form
bank_of bits = from_bits 8 (bank_bits bits)

unfoldable pub register_addresses : Known → (n : ℕ) → Form
register_addresses known n = add 256 (bank_of known.psw.bits) (single n)

abbrev pub pointer_addresses : Known → Pointer → Form
pointer_addresses known i = register_addresses known (pointer_number i)

-- @Ri is where the register points
abbrev pub pointed_addresses : Known → Pointer → Form
pointed_addresses known i = ram_values known (pointer_addresses known i)

-- OPERANDS

-- one address
abbrev pub only_at : Address → Addresses
only_at (AtRam at) = InRam (single at)
only_at (AtSfr at) = InSfr at

abbrev pub direct_addresses : (direct : ℕ) → Addresses
direct_addresses direct = only_at (direct_address direct)

-- of the byte that has a bit
abbrev pub bit_addresses : (bit : ℕ) → Addresses
bit_addresses bit = only_at (bit_address bit)

abbrev pub working_addresses : Known → Working → Addresses
working_addresses known (Indirect i) = InRam (pointed_addresses known i)
working_addresses known (Register n) = InRam (register_addresses known (register_number n))

abbrev pub addresses_of : Known → Memory → Addresses
addresses_of known (Direct direct) = direct_addresses direct
addresses_of known (InWorking w) = working_addresses known w

-- JMP @A+DPTR, and MOVC A,@A+DPTR
unfoldable pub jump_targets : Known → Form
jump_targets a = add 65536 (pair_set a.dpl.set a.dph.set) (pair_set a.a.set (single 0))
