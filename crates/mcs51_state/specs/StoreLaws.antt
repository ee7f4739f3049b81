-- What holds of writes. Proofs above take these laws from one record.
use Rattle.std.specs.Prelude.{◌≡◌, ◌/◌, ◌*◌, ◌%◌, ◌<◌, Bool, ℕ, length, Option, option_map}
use Rattle.entry_value.specs.declared.byte.Byte.{Byte}
use Rattle.value_bits.specs.declared.tri.Tri.{Tri}
use Rattle.value_bits.specs.Bits.{IsBit}
use Rattle.mcs51_chip.specs.declared.place.Address.{Address}
use Rattle.mcs51_chip.specs.declared.place.Address.TheVariants.{InRam}
use Rattle.mcs51_chip.specs.declared.place.Sfr.TheVariants.{Psw}
use Rattle.mcs51_chip.specs.declared.state.ChipState.{ChipState}
use Rattle.mcs51_chip.specs.Memory.{popped, pushed, with_pushed_address, write}
use Rattle.mcs51_chip.specs.Registers.{with_accumulator, with_carry, with_data_pointer, with_flags, write_sfr}
use Rattle.mcs51_state.specs.declared.addresses.Addresses.{Addresses}
use Rattle.mcs51_state.specs.declared.status.Status.{Status}
use Rattle.mcs51_state.specs.Forms.{IsByte, IsOwnRelation}
use Rattle.mcs51_state.specs.Holding.{HoldsOfStatus}
use Rattle.mcs51_state.specs.Known.{Known}
use Rattle.mcs51_state.specs.Places.{psw_place, suspended_of}
use Rattle.mcs51_state.specs.Standing.{AreAddresses, MayStandAt}
use Rattle.mcs51_state.specs.Under.{IsUnder}
use Rattle.mcs51_state.specs.Following.{Follows, IsValue, KeepsForm}
use Rattle.mcs51_state.specs.Stack.{address_pushed, byte_popped, byte_pushed, pair_pushed, stack_top}
use Rattle.mcs51_state.specs.Writing.{accumulator_written, byte_written, carry_set, data_pointer_written, flags_set, status_written}

-- What is known keeps its form behind writes of bytes in form.
pub record StoresKeepForm : Type 0 where
  pub byte : (framed : Bool) (addresses : Addresses) (byte : Byte) → AreAddresses addresses → IsByte framed byte
      → KeepsForm framed (byte_written framed addresses byte)
  pub accumulator : (framed : Bool) (byte : Byte) → IsByte framed byte → KeepsForm framed (accumulator_written byte)
  pub data_pointer : (framed : Bool) (low high : Byte) → IsByte framed low → IsByte framed high
      → KeepsForm framed (data_pointer_written low high)
  pub status : (framed : Bool) (status : Status) → length status.bits ≡ 6
      → IsOwnRelation framed psw_place 3 status.entry → KeepsForm framed (status_written status)
  pub carry : (framed : Bool) (carry : Tri) → KeepsForm framed (carry_set carry)
  pub flags : (framed : Bool) (carry half overflow : Tri) → KeepsForm framed (flags_set carry half overflow)
  pub push : (framed : Bool) (byte : Byte) → IsByte framed byte → KeepsForm framed (byte_pushed framed byte)
  pub push_pair : (framed : Bool) (low high : Byte) → IsByte framed low → IsByte framed high
      → KeepsForm framed (pair_pushed framed low high)
  pub push_address : (framed : Bool) (address : ℕ) → address < 65536
      → KeepsForm framed (address_pushed framed address)
  pub pop : (framed : Bool) → KeepsForm framed byte_popped

-- What is known behind a write stands for the state behind the chip's write of a number that the byte holds of, at an
-- address where the operand may stand. The program counter doesn't count.
pub record WritesFollow : Type 0 where
  pub byte : (framed : Bool) (first : Option ChipState) (addresses : Addresses) (address : Address) (byte : Byte)
      (x : ℕ)
      → IsValue framed first byte x → AreAddresses addresses → MayStandAt addresses address
      → Follows framed first (byte_written framed addresses byte) (write address x)
  pub accumulator : (framed : Bool) (first : Option ChipState) (byte : Byte) (x : ℕ) → IsValue framed first byte x
      → Follows framed first (accumulator_written byte) (with_accumulator x)
  pub data_pointer : (framed : Bool) (first : Option ChipState) (low high : Byte) (x : ℕ)
      → IsValue framed first low (x % 256) → IsValue framed first high (x / 256)
      → Follows framed first (data_pointer_written low high) (with_data_pointer x)
  pub counter : (framed : Bool) (first : Option ChipState) (pc : ℕ) → pc < 65536
      → Follows framed first (λ known. known) (λ s. record s { pc = pc })

-- What is known behind a write of PSW, or of flags in it, stands for the state behind the chip's.
pub record FlagsFollow : Type 0 where
  pub status : (framed : Bool) (first : Option ChipState) (status : Status) (x : ℕ) → x < 256 → length status.bits ≡ 6
      → IsOwnRelation framed psw_place 3 status.entry
      → HoldsOfStatus (option_map suspended_of first) status (x / 4 * 4)
      → Follows framed first (status_written status) (write_sfr Psw x)
  pub carry : (framed : Bool) (first : Option ChipState) (carry : Tri) (c : ℕ) → IsBit carry c
      → Follows framed first (carry_set carry) (with_carry c)
  pub flags : (framed : Bool) (first : Option ChipState) (carry half overflow : Tri) (c h o : ℕ) → IsBit carry c
      → IsBit half h → IsBit overflow o → Follows framed first (flags_set carry half overflow) (with_flags c h o)

-- What is known behind a push or a pop stands for the state behind the chip's, and the top byte stands at one of its
-- addresses.
pub record StackFollows : Type 0 where
  pub push : (framed : Bool) (first : Option ChipState) (byte : Byte) (x : ℕ) → IsValue framed first byte x
      → Follows framed first (byte_pushed framed byte) (pushed x)
  pub push_pair : (framed : Bool) (first : Option ChipState) (low high : Byte) (address : ℕ)
      → IsValue framed first low (address % 256) → IsValue framed first high (address / 256)
      → Follows framed first (pair_pushed framed low high) (with_pushed_address address)
  pub push_address : (framed : Bool) (first : Option ChipState) (address : ℕ) → address < 65536
      → Follows framed first (address_pushed framed address) (with_pushed_address address)
  pub pop : (framed : Bool) (first : Option ChipState) → Follows framed first byte_popped popped
  pub top_form : (framed : Bool) (first : Option ChipState) (known : Known)
      (s : ChipState) → IsUnder framed known s first
      → AreAddresses (stack_top known)
  pub top : (framed : Bool) (first : Option ChipState) (known : Known) (s : ChipState) → IsUnder framed known s first
      → MayStandAt (stack_top known) (InRam s.sp)

pub record StoreLaws : Type 0 where
  pub forms : StoresKeepForm
  pub writes : WritesFollow
  pub flags : FlagsFollow
  pub stack : StackFollows
