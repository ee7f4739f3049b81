-- The registers of the MCS-51 and their bits (Intel, MCS-51 Programmer's Guide and Instruction Set, "Program Status Word",
-- "Register Banks" and "Special Function Registers").
use Rattle.std.specs.Prelude.{ℕ, ◌+◌, ◌-◌, ◌*◌, ◌/◌, ◌%◌, ◌^◌, ◌==◌, if◌then◌else◌, Bool}
use Rattle.std.specs.Int.{bit_at}
use Rattle.mcs51_chip.specs.declared.place.Sfr.{Sfr}
use Rattle.mcs51_chip.specs.declared.place.Sfr.TheVariants.{Sp, Dpl, Dph, Ie, Ip, Psw, Acc, B, Other}
use Rattle.mcs51_chip.specs.declared.state.ChipState.{ChipState}
use Rattle.choosing.specs.Asking.{Asking, answer, ask, and_then}

-- BITS

abbrev pub bit_of : Bool → ℕ
bit_of flag = if flag then 1 else 0

-- a byte with this value of its bit n
abbrev pub with_bit : (byte n bit : ℕ) → ℕ
with_bit byte n bit = byte - bit_at byte n * 2 ^ n + bit * 2 ^ n

-- P: 1 where the accumulator has an odd number of bits that are 1
abbrev pub parity : ℕ → ℕ
parity a = (bit_at a 0 + bit_at a 1 + bit_at a 2 + bit_at a 3 + bit_at a 4 + bit_at a 5 + bit_at a 6 + bit_at a 7) % 2

-- PSW: CY is bit 7, AC 6, F0 5, RS1 4, RS0 3, OV 2 and P 0

abbrev pub carry_of : ChipState → ℕ
carry_of s = bit_at s.psw 7

abbrev pub half_carry_of : ChipState → ℕ
half_carry_of s = bit_at s.psw 6

abbrev pub with_carry : ℕ → ChipState → ChipState
with_carry carry s = record s { psw = s.psw % 128 + 128 * carry }

-- CY, AC and OV; F0, RS1 and RS0 stay
abbrev pub with_flags : (carry half overflow : ℕ) → ChipState → ChipState
with_flags carry half overflow s = record s { psw = s.psw / 8 % 8 * 8 + 128 * carry + 64 * half + 4 * overflow }

-- where the register n of the bank that RS1 and RS0 select stands in RAM
abbrev pub register_address : ChipState → ℕ → ℕ
register_address s n = n + 8 * (s.psw / 8 % 4)

-- DPTR: DPH is its high byte
abbrev pub data_pointer : ChipState → ℕ
data_pointer s = s.dpl + 256 * s.dph

abbrev pub with_data_pointer : ℕ → ChipState → ChipState
with_data_pointer x s = record s { dpl = x % 256; dph = x / 256 }

abbrev pub with_accumulator : ℕ → ChipState → ChipState
with_accumulator x s = record s { a = x }

-- REGISTERS BY THEIR ADDRESSES

abbrev pub sfr_at : ℕ → Sfr
sfr_at at =
    if at == 0x81 then Sp
    else if at == 0x82 then Dpl
    else if at == 0x83 then Dph
    else if at == 0xA8 then Ie
    else if at == 0xB8 then Ip
    else if at == 0xD0 then Psw
    else if at == 0xE0 then Acc
    else if at == 0xF0 then B
    else Other

-- bits that aren't held read as any: bit 1 of PSW, bit 6 of IE and the bits 7 and 6 of IP
abbrev pub read_sfr : ChipState → Sfr → Asking ℕ
read_sfr s Sp = answer s.sp
read_sfr s Dpl = answer s.dpl
read_sfr s Dph = answer s.dph
read_sfr s Ie = and_then (ask 2) (λ bit. answer (s.ie + 64 * bit))
read_sfr s Ip = and_then (ask 4) (λ bits. answer (s.ip + 64 * bits))
read_sfr s Psw = and_then (ask 2) (λ bit. answer (s.psw + 2 * bit + parity s.a))
read_sfr s Acc = answer s.a
read_sfr s B = answer s.b
read_sfr s Other = ask 256

abbrev pub write_sfr : Sfr → ℕ → ChipState → ChipState
write_sfr Sp x s = record s { sp = x }
write_sfr Dpl x s = record s { dpl = x }
write_sfr Dph x s = record s { dph = x }
write_sfr Ie x s = record s { ie = x % 64 + x / 128 * 128 }
write_sfr Ip x s = record s { ip = x % 64 }
write_sfr Psw x s = record s { psw = x / 4 * 4 }
write_sfr Acc x s = record s { a = x }
write_sfr B x s = record s { b = x }
write_sfr Other x s = s
