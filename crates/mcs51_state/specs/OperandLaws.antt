-- What holds of operands, of reads and accesses, and of formats. Proofs above take these laws from one record.
use Rattle.call_context.specs.declared.shown.Item.{Item}
use Rattle.choosing.specs.Gives.{Gives}
use Rattle.entry_value.specs.Words.{HoldsOfByte}
use Rattle.mcs51_chip.specs.Leading.{MayRead}
use Rattle.mcs51_chip.specs.Memory.{address_of, address_reads, bit_address, direct_address, pointer_reads, reads, working_address, write, writes}
use Rattle.mcs51_chip.specs.Registers.{carry_of, data_pointer}
use Rattle.mcs51_chip.specs.Step.{implied, moving, reading, updating, writing}
use Rattle.mcs51_chip.specs.declared.place.Access.{Access}
use Rattle.mcs51_chip.specs.declared.place.Access.TheVariants.{Internal}
use Rattle.mcs51_chip.specs.declared.place.Address.{Address}
use Rattle.mcs51_chip.specs.declared.state.ChipState.{ChipState}
use Rattle.mcs51_decode.specs.Fitting.{IsMemory}
use Rattle.mcs51_decode.specs.declared.instr.Memory.{Memory}
use Rattle.mcs51_decode.specs.declared.instr.Working.{Working}
use Rattle.mcs51_state.specs.Accesses.{read_at, update_at, write_at}
use Rattle.mcs51_state.specs.Doing.{DoesSo, LeadsSo}
use Rattle.mcs51_state.specs.Operands.{addresses_of, bit_addresses, direct_addresses, jump_targets, working_addresses}
use Rattle.mcs51_state.specs.Reading.{carry, read_bit, read_byte, status_byte}
use Rattle.mcs51_state.specs.Showing.{AreShown, access_of, address_accesses, pointer_accesses}
use Rattle.mcs51_state.specs.Forms.{IsByte, IsKnown}
use Rattle.mcs51_state.specs.Known.{Known}
use Rattle.mcs51_state.specs.Places.{suspended_of}
use Rattle.mcs51_state.specs.Standing.{AreAddresses, MayStandAt}
use Rattle.mcs51_state.specs.Under.{IsUnder}
use Rattle.mcs51_state.specs.declared.addresses.Addresses.{Addresses}
use Rattle.std.specs.Int.{bit_at}
use Rattle.std.specs.Prelude.{Bool, List, Option, [], option_map, ℕ, ◌%◌, ◌++◌, ◌+◌, ◌<◌, ◌∷◌, ◌≡◌}
use Rattle.value_bits.specs.Bits.{IsBit}
use Rattle.value_set.specs.Form.{Has, IsNormal}

-- An operand of the chip stands at one of the addresses that it may have, and these have their form.
pub record OperandsStand : Type 0 where
  pub working : (framed : Bool) (known : Known) (s : ChipState)
      (first : Option ChipState) → IsUnder framed known s first
      → (w : Working) → MayStandAt (working_addresses known w) (working_address s w)
  pub working_form : (framed : Bool) (known : Known) → IsKnown framed known → (w : Working)
      → AreAddresses (working_addresses known w)
  pub operand : (framed : Bool) (known : Known) (s : ChipState)
      (first : Option ChipState) → IsUnder framed known s first
      → (m : Memory) → MayStandAt (addresses_of known m) (address_of s m)
  pub operand_form : (framed : Bool) (known : Known) → IsKnown framed known → (m : Memory) → IsMemory m
      → AreAddresses (addresses_of known m)
  pub direct : (direct : ℕ) → direct < 256
      → MayStandAt (direct_addresses direct) (direct_address direct) × AreAddresses (direct_addresses direct)
  pub bit : (bit : ℕ) → bit < 256
      → MayStandAt (bit_addresses bit) (bit_address bit) × AreAddresses (bit_addresses bit)

-- What is read at some addresses holds of each number that the chip may read at one of them, and has the form of bytes. So
-- do the bits of the number, CY, and PSW as a byte, whatever the two bits are that it doesn't hold.
pub record ReadsHold : Type 0 where
  pub byte : (framed : Bool) (known : Known) (s : ChipState) (first : Option ChipState) → IsUnder framed known s first
      → (addresses : Addresses) (address : Address) (x : ℕ) → MayStandAt addresses address
      → AreAddresses addresses → MayRead s address x
      → HoldsOfByte (option_map suspended_of first) (read_byte framed known addresses) x
  pub form : (framed : Bool) (known : Known) → IsKnown framed known → (addresses : Addresses)
      → AreAddresses addresses → IsByte framed (read_byte framed known addresses)
  pub bit : (framed : Bool) (known : Known) (s : ChipState) (first : Option ChipState) → IsUnder framed known s first
      → (addresses : Addresses) (address : Address) (x place : ℕ) → MayStandAt addresses address
      → AreAddresses addresses → MayRead s address x → place < 8
      → IsBit (read_bit known addresses place) (bit_at x place)
  pub carry : (framed : Bool) (known : Known) (s : ChipState) (first : Option ChipState) → IsUnder framed known s first
      → IsBit (carry known) (carry_of s)
  pub status : (framed : Bool) (known : Known) (s : ChipState) (first : Option ChipState) → IsUnder framed known s first
      → (x y : ℕ) → y < 4 → x ≡ s.psw + y → HoldsOfByte (option_map suspended_of first) (status_byte known.psw) x

-- Each access of the chip to an operand is shown: to the operand itself, and to the register of @Ri.
pub record AccessesAreShown : Type 0 where
  pub operand : (pc : ℕ) (write : Bool) (addresses : Addresses) (address : Address)
      → MayStandAt addresses address → AreAddresses addresses
      → AreShown (access_of pc write addresses ∷ []) pc (Internal write address ∷ [])
  pub pointer : (framed : Bool) (pc : ℕ) (known : Known) (s : ChipState) (first : Option ChipState)
      → IsUnder framed known s first → (w : Working) → AreShown (pointer_accesses pc known w) pc (pointer_reads s w)
  pub address : (framed : Bool) (pc : ℕ) (known : Known) (s : ChipState) (first : Option ChipState)
      → IsUnder framed known s first → (m : Memory) → AreShown (address_accesses pc known m) pc (address_reads s m)

-- The address of JMP @A+DPTR, and of MOVC A,@A+DPTR, is one of the targets.
pub record JumpTargetsHold : Type 0 where
  pub has : (framed : Bool) (a : Known) (s : ChipState) (first : Option ChipState) → IsUnder framed a s first
      → Has 65536 (jump_targets a) ((s.a + data_pointer s) % 65536)
  pub normal : (framed : Bool) (a : Known) → IsKnown framed a → IsNormal 65536 (jump_targets a)

-- Accesses that are shown one by one are shown together. A read, a write, and both of one byte are shown.
pub record AccessesAddUp : Type 0 where
  pub none : (items : List Item) (pc : ℕ) → AreShown items pc []
  pub both : (items others : List Item) (pc : ℕ) (one more : List Access) → AreShown items pc one
      → AreShown others pc more → AreShown (items ++ others) pc (one ++ more)
  pub read : (pc : ℕ) (at : Addresses) (address : Address) → MayStandAt at address → AreAddresses at
      → AreShown (read_at pc at) pc (reads address)
  pub write : (pc : ℕ) (at : Addresses) (address : Address) → MayStandAt at address → AreAddresses at
      → AreShown (write_at pc at) pc (writes address)
  pub update : (pc : ℕ) (at : Addresses) (address : Address) → MayStandAt at address → AreAddresses at
      → AreShown (update_at pc at) pc (reads address ++ writes address)

-- A format does what is said of it, where each number that the chip may read leads there: one that touches no memory, that
-- reads a byte, writes one, reads and writes one, and moves one. A write keeps PC.
pub record FormatsDo : Type 0 where
  pub implied : (framed : Bool) (first : Option ChipState) (pc : ℕ) (behind : Known) (s t : ChipState)
      → LeadsSo framed first behind s t → Gives (DoesSo framed first [] pc behind s) (implied t)
  pub reading : (framed : Bool) (first : Option ChipState) (items : List Item) (pc : ℕ) (behind : Known) (s : ChipState)
      (before : List Access) (at : Addresses) (address : Address) (leads : ℕ → ChipState)
      → AreShown items pc before → MayStandAt at address → AreAddresses at
      → ((x : ℕ) → MayRead s address x → LeadsSo framed first behind s (leads x))
      → Gives (DoesSo framed first (items ++ read_at pc at) pc behind s) (reading s before address leads)
  pub writing : (framed : Bool) (first : Option ChipState) (items : List Item) (pc : ℕ) (behind : Known) (s : ChipState)
      (before : List Access) (at : Addresses) (address : Address) (x : ℕ)
      → AreShown items pc before → MayStandAt at address → AreAddresses at
      → LeadsSo framed first behind s (write address x s)
      → Gives (DoesSo framed first (items ++ write_at pc at) pc behind s) (writing s before address x)
  pub updating : (framed : Bool) (first : Option ChipState) (items : List Item) (pc : ℕ) (behind : Known)
      (s : ChipState) (before : List Access) (at : Addresses) (address : Address) (leads : ℕ → ChipState)
      → AreShown items pc before → MayStandAt at address → AreAddresses at
      → ((x : ℕ) → MayRead s address x → LeadsSo framed first behind s (leads x))
      → Gives (DoesSo framed first (items ++ update_at pc at) pc behind s) (updating s before address leads)
  pub moving : (framed : Bool) (first : Option ChipState) (items : List Item) (pc : ℕ) (behind : Known) (s : ChipState)
      (before : List Access) (at onto : Addresses) (from to : Address)
      → AreShown items pc before → MayStandAt at from → AreAddresses at → MayStandAt onto to → AreAddresses onto
      → ((x : ℕ) → MayRead s from x → LeadsSo framed first behind s (write to x s))
      → Gives (DoesSo framed first (items ++ read_at pc at ++ write_at pc onto) pc behind s) (moving s before from to)
  pub write_keeps : (address : Address) (x : ℕ) (s : ChipState) → (write address x s).pc ≡ s.pc

pub record OperandLaws : Type 0 where
  pub stands : OperandsStand
  pub reads : ReadsHold
  pub shown : AccessesAreShown
  pub sums : AccessesAddUp
  pub formats : FormatsDo
  pub jumps : JumpTargetsHold
