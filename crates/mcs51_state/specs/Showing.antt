-- The accesses to operands that an analysis shows.
use Rattle.std.specs.Prelude.{ℕ, Bool, false, List, [], ◌∷◌, Contains}
use Rattle.call_context.specs.declared.shown.Item.{Item}
use Rattle.call_context.specs.declared.shown.Item.TheVariants.{Access}
use Rattle.call_context.specs.declared.shown.Set.TheVariants.{B}
use Rattle.chip_numbers.specs.declared.space.Space.TheVariants.{Ram, Sfr}
use Rattle.call_context.specs.Showing.{AreShowing}
use Rattle.value_set.specs.Summing.{single}
use Rattle.mcs51_decode.specs.declared.instr.Memory.{Memory}
use Rattle.mcs51_decode.specs.declared.instr.Memory.TheVariants.{Direct, Working as InWorking}
use Rattle.mcs51_decode.specs.declared.instr.Working.{Working}
use Rattle.mcs51_decode.specs.declared.instr.Working.TheVariants.{Indirect, Register}
use Rattle.mcs51_chip.specs.declared.place.Access.{Access as AnAccess}
use Rattle.mcs51_chip.specs.Step.{accessed}
use Rattle.mcs51_state.specs.declared.addresses.Addresses.{Addresses}
use Rattle.mcs51_state.specs.declared.addresses.Addresses.TheVariants.{InRam, InSfr}
use Rattle.mcs51_state.specs.Known.{Known}
use Rattle.mcs51_state.specs.Operands.{pointer_addresses}

-- one byte is read or written by the instruction at an address
abbrev pub access_of : (pc : ℕ) → (write : Bool) → Addresses → Item
access_of pc write (InRam set) = Access pc Ram write 1 (B set)
access_of pc write (InSfr register) = Access pc Sfr write 1 (B (single register))

-- @Ri reads the register
abbrev pub pointer_accesses : (pc : ℕ) → Known → Working → List Item
pointer_accesses pc known (Indirect i) = access_of pc false (InRam (pointer_addresses known i)) ∷ []
pointer_accesses pc known (Register n) = []

abbrev pub address_accesses : (pc : ℕ) → Known → Memory → List Item
address_accesses pc known (Direct direct) = []
address_accesses pc known (InWorking w) = pointer_accesses pc known w

-- each access of the chip is shown by one of the items
abbrev pub AreShown : List Item → (pc : ℕ) → List AnAccess → Type 0
AreShown items pc accesses = (access : AnAccess) → Contains accesses access → AreShowing items (accessed pc access)
