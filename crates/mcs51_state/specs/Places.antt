-- What the values of an interrupt's handler may remember of the state that the interrupt suspended. Places have numbers: a
-- byte of RAM its address, a register 100h and its address, and the low and the high byte of PC 200h and 201h (Intel, MCS-51
-- Microcontroller Family User's Manual, "Special Function Registers").
use Rattle.std.specs.Prelude.{ℕ, ◌-◌, ◌/◌, ◌%◌, ◌==◌, ◌||◌, nat_lt, if◌then◌else◌, Bool, true, false, slice_index}
use Rattle.entry_value.specs.Words.{Suspended}
use Rattle.mcs51_chip.specs.declared.place.Sfr.{Sfr}
use Rattle.mcs51_chip.specs.declared.place.Sfr.TheVariants.{Sp, Dpl, Dph, Ie, Ip, Psw, Acc, B, Other}
use Rattle.mcs51_chip.specs.declared.state.ChipState.{ChipState}
use Rattle.mcs51_chip.specs.Registers.{sfr_at}

-- NUMBERS OF PLACES

abbrev pub ie_place : ℕ
ie_place = 0x1A8

abbrev pub ip_place : ℕ
ip_place = 0x1B8

abbrev pub psw_place : ℕ
psw_place = 0x1D0

-- the register at a place
abbrev pub sfr_of : (place : ℕ) → Sfr
sfr_of place = sfr_at (place - 256)

-- no value remembers SP, nor the registers that hold nothing
abbrev pub is_remembered : Sfr → Bool
is_remembered Sp = false
is_remembered Other = false
is_remembered _ = true

abbrev pub is_place : ℕ → Bool
is_place place = nat_lt place 256 || is_remembered (sfr_of place) || (place == 512) || (place == 513)

-- WHAT A PLACE HELD

abbrev pub register_of : ChipState → Sfr → ℕ
register_of f Sp = f.sp
register_of f Dpl = f.dpl
register_of f Dph = f.dph
register_of f Ie = f.ie
register_of f Ip = f.ip
register_of f Psw = f.psw
register_of f Acc = f.a
register_of f B = f.b
register_of f Other = 0

abbrev pub number_of : ChipState → (place : ℕ) → ℕ
number_of f place =
    if nat_lt place 256 then slice_index f.ram place
    else if nat_lt place 512 then register_of f (sfr_of place)
    else if place == 512 then f.pc % 256
    else f.pc / 256

-- IE holds all its bits but bit 6, IP its bits 5 to 0 and PSW its bits 7 to 2. As a word a byte has the high byte 0.
abbrev pub held_by : Sfr → ℕ
held_by Ie = 65535 - 64
held_by Ip = 65535 - 192
held_by Psw = 65535 - 3
held_by _ = 65535

-- what a relation to a suspended state may name
abbrev pub suspended_of : ChipState → Suspended
suspended_of f = record { number = number_of f; held = λ place. held_by (sfr_of place) }
