-- The memories of the MCS-51 (Intel, MCS-51 Programmer's Guide and Instruction Set, "Memory Organization" and "Addressing
-- Modes"): internal RAM and the special function registers, and the stack, which lies in RAM; external RAM; the program.
use Rattle.std.specs.Prelude.{ℕ, ◌+◌, ◌*◌, ◌/◌, ◌%◌, nat_lt, if◌then◌else◌, true, false, Option, None, Some, List, [], ◌∷◌, ◌++◌, slice_index, slice_set}
use Rattle.mcs51_decode.specs.declared.instr.Memory.{Memory}
use Rattle.mcs51_decode.specs.declared.instr.Memory.TheVariants.{Direct, Working as InWorking}
use Rattle.mcs51_decode.specs.declared.instr.Working.{Working}
use Rattle.mcs51_decode.specs.declared.instr.Working.TheVariants.{Indirect, Register}
use Rattle.mcs51_decode.specs.declared.instr.Pointer.{Pointer}
use Rattle.mcs51_decode.specs.Encoding.{pointer_number, register_number}
use Rattle.mcs51_chip.specs.declared.place.Access.{Access}
use Rattle.mcs51_chip.specs.declared.place.Access.TheVariants.{Internal}
use Rattle.mcs51_chip.specs.declared.place.Address.{Address}
use Rattle.mcs51_chip.specs.declared.place.Address.TheVariants.{InRam, InSfr}
use Rattle.mcs51_chip.specs.declared.state.ChipState.{ChipState}
use Rattle.mcs51_chip.specs.Registers.{register_address, sfr_at, read_sfr, write_sfr}
use Rattle.choosing.specs.Asking.{Asking, answer, ask}

-- ADDRESSES

-- a direct address below 80h is in RAM, and the others are registers
abbrev pub direct_address : ℕ → Address
direct_address direct = if nat_lt direct 128 then InRam direct else InSfr direct

-- the bits 00h to 7Fh lie in the bytes 20h to 2Fh of RAM, and the others in the register at their address without its low
-- three bits, which are the place in the byte
abbrev pub bit_address : ℕ → Address
bit_address bit = if nat_lt bit 128 then InRam (32 + bit / 8) else InSfr (bit / 8 * 8)

abbrev pub pointer_address : ChipState → Pointer → ℕ
pointer_address s i = register_address s (pointer_number i)

-- @Ri reaches all 256 bytes of RAM
abbrev pub pointed_by : ChipState → Pointer → ℕ
pointed_by s i = slice_index s.ram (pointer_address s i)

abbrev pub working_address : ChipState → Working → Address
working_address s (Indirect i) = InRam (pointed_by s i)
working_address s (Register n) = InRam (register_address s (register_number n))

abbrev pub address_of : ChipState → Memory → Address
address_of s (Direct direct) = direct_address direct
address_of s (InWorking w) = working_address s w

-- BYTES

unfoldable pub read : ChipState → Address → Asking ℕ
read s (InRam at) = answer (slice_index s.ram at)
read s (InSfr at) = read_sfr s (sfr_at at)

unfoldable pub write : Address → ℕ → ChipState → ChipState
write (InRam at) x s = record s { ram = slice_set s.ram at x }
write (InSfr at) x s = write_sfr (sfr_at at) x s

-- a byte of the program, or any where the image has none
unfoldable pub read_code : Option ℕ → Asking ℕ
read_code (Some byte) = answer byte
read_code None = ask 256

-- THE STACK

-- the byte is written at SP + 1, which is then SP
abbrev pub pushed : ℕ → ChipState → ChipState
pushed byte s = record s { sp = (s.sp + 1) % 256; ram = slice_set s.ram ((s.sp + 1) % 256) byte }

abbrev pub top_of : ChipState → ℕ
top_of s = slice_index s.ram s.sp

abbrev pub popped : ChipState → ChipState
popped s = record s { sp = (s.sp + 255) % 256 }

-- a program address goes to the stack with its low byte first
abbrev pub with_pushed_address : ℕ → ChipState → ChipState
with_pushed_address address s = pushed (address / 256) (pushed (address % 256) s)

-- and comes back with its high byte first
abbrev pub popped_address : ChipState → ℕ
popped_address s = 256 * top_of s + top_of (popped s)

-- ACCESSES

abbrev pub reads : Address → List Access
reads address = Internal false address ∷ []

abbrev pub writes : Address → List Access
writes address = Internal true address ∷ []

-- @Ri reads the register
abbrev pub pointer_reads : ChipState → Working → List Access
pointer_reads s (Indirect i) = reads (InRam (pointer_address s i))
pointer_reads s (Register n) = []

abbrev pub address_reads : ChipState → Memory → List Access
address_reads s (Direct direct) = []
address_reads s (InWorking w) = pointer_reads s w

-- what a push of two bytes writes, and what a pop of two bytes reads
abbrev pub push_writes : ChipState → List Access
push_writes s = writes (InRam ((s.sp + 1) % 256)) ++ writes (InRam ((s.sp + 2) % 256))

abbrev pub pop_reads : ChipState → List Access
pop_reads s = reads (InRam s.sp) ++ reads (InRam ((s.sp + 255) % 256))
