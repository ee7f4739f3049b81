-- The accesses that an instruction shows for an operand, in their order: the register of @Ri, and the operand itself (Intel,
-- MCS-51 Programmer's Guide and Instruction Set, "Addressing Modes").
use Rattle.std.specs.Prelude.{ℕ, true, false, List, [], ◌∷◌, ◌++◌}
use Rattle.call_context.specs.declared.shown.Item.{Item}
use Rattle.mcs51_decode.specs.declared.instr.Memory.{Memory}
use Rattle.mcs51_state.specs.declared.addresses.Addresses.{Addresses}
use Rattle.mcs51_state.specs.Known.{Known}
use Rattle.mcs51_state.specs.Operands.{addresses_of}
use Rattle.mcs51_state.specs.Showing.{access_of, address_accesses}

-- of a byte that is read, written, or read and then written, at one of some addresses
abbrev pub read_at : (pc : ℕ) → Addresses → List Item
read_at pc at = access_of pc false at ∷ []

abbrev pub write_at : (pc : ℕ) → Addresses → List Item
write_at pc at = access_of pc true at ∷ []

abbrev pub update_at : (pc : ℕ) → Addresses → List Item
update_at pc at = access_of pc false at ∷ access_of pc true at ∷ []

-- of an operand
abbrev pub read_items : (pc : ℕ) → Known → Memory → List Item
read_items pc a m = address_accesses pc a m ++ read_at pc (addresses_of a m)

abbrev pub write_items : (pc : ℕ) → Known → Memory → List Item
write_items pc a m = address_accesses pc a m ++ write_at pc (addresses_of a m)

abbrev pub update_items : (pc : ℕ) → Known → Memory → List Item
update_items pc a m = address_accesses pc a m ++ update_at pc (addresses_of a m)
