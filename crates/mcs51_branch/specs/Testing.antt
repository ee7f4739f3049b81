-- What is known where a bit is set, and where it is clear (Intel, MCS-51 Programmer's Guide and Instruction Set: JB, JNB and
-- JBC).
use Rattle.std.specs.Prelude.{ℕ, ◌<◌, ◌-◌, ◌==◌, if◌then◌else◌, nat_lt, Bool, Option, None, Some, option_map, List, [], ◌∷◌, slice_set, slice_index_or}
use Rattle.std.specs.Int.{bit_at}
use Rattle.std.specs.List.{filter}
use Rattle.entry_value.specs.declared.byte.Byte.{Byte}
use Rattle.value_set.specs.declared.form.Form.{Form}
use Rattle.value_set.specs.declared.form.Form.TheVariants.{Values, Run}
use Rattle.value_set.specs.Form.{gather}
use Rattle.value_bits.specs.declared.tri.Tri.TheVariants.{Either}
use Rattle.value_bits.specs.Bits.{known_bits, may_be, known_flag}
use Rattle.mcs51_chip.specs.declared.place.Address.{Address}
use Rattle.mcs51_chip.specs.declared.place.Address.TheVariants.{InRam, InSfr}
use Rattle.mcs51_chip.specs.declared.place.Sfr.{Sfr}
use Rattle.mcs51_chip.specs.declared.place.Sfr.TheVariants as sfr
use Rattle.mcs51_chip.specs.Registers.{bit_of, sfr_at}
use Rattle.mcs51_state.specs.declared.fact.Compared.TheVariants.{Ram}
use Rattle.mcs51_state.specs.Known.{Known}
use Rattle.mcs51_branch.specs.Cuts.{set_at, with_set}

-- SETS

-- the number has the bit so
abbrev pub has_bit : (place : ℕ) → (bit : Bool) → (v : ℕ) → Bool
has_bit place bit v = bit_at v place == bit_of bit

abbrev pub gathered : List ℕ → Option Form
gathered [] = None
gathered (x ∷ xs) = Some (gather 256 (x ∷ xs))

-- a list keeps the numbers with such a bit; a run stays whole, where its numbers aren't known to have the other one
unfoldable pub tested : (place : ℕ) → (bit : Bool) → Form → Option Form
tested place bit (Values xs) = gathered (filter (has_bit place bit) xs)
tested place bit (Run p) = if may_be (slice_index_or (known_bits 8 (Run p)) place Either) bit then Some (Run p) else None

-- REGISTERS

-- the bits 7 to 2 of PSW are held, and known behind the test
abbrev pub with_seen_bit : (place : ℕ) → (bit : Bool) → Known → Known
with_seen_bit place bit known =
    record known { psw = record { bits = slice_set known.psw.bits (place - 2) (known_flag bit); entry = known.psw.entry } }

unfoldable pub status_tested : (place : ℕ) → (bit : Bool) → Known → Option Known
status_tested place bit known =
    if nat_lt place 2 then Some known
    else if may_be (slice_index_or known.psw.bits (place - 2) Either) bit then Some (with_seen_bit place bit known)
    else None

-- the relation of a byte stays
unfoldable pub byte_tested : (place : ℕ) → (bit : Bool) → Byte → Option Byte
byte_tested place bit byte = option_map (λ set. record { set = set; entry = byte.entry }) (tested place bit byte.set)

-- IE holds all bits but bit 6, and IP its bits 5 to 0; of other bits nothing is seen. SP, DPL and DPH have no bit addresses.
unfoldable pub register_tested : Sfr → (place : ℕ) → (bit : Bool) → Known → Option Known
register_tested sfr.Acc place bit known = option_map (λ a. record known { a = a }) (byte_tested place bit known.a)
register_tested sfr.B place bit known = option_map (λ b. record known { b = b }) (byte_tested place bit known.b)
register_tested sfr.Psw place bit known = status_tested place bit known
register_tested sfr.Ie place bit known =
    if place == 6 then Some known else option_map (λ ie. record known { ie = ie }) (byte_tested place bit known.ie)
register_tested sfr.Ip place bit known =
    if nat_lt 5 place then Some known else option_map (λ ip. record known { ip = ip }) (byte_tested place bit known.ip)
register_tested sfr.Sp place bit known = Some known
register_tested sfr.Dpl place bit known = Some known
register_tested sfr.Dph place bit known = Some known
register_tested sfr.Other place bit known = Some known

-- PLACES

-- the cell of a list gets what is left of it, and that of a run stays as it is
abbrev pub with_left : (whole : Form) → (at : ℕ) → Known → (left : Form) → Known
with_left (Values xs) at known left = with_set (Ram at) known left
with_left (Run p) at known left = known

unfoldable pub bit_tested : Address → (place : ℕ) → (bit : Bool) → Known → Option Known
bit_tested (InRam at) place bit known = option_map (with_left (set_at (Ram at) known) at known) (tested place bit (set_at (Ram at) known))
bit_tested (InSfr at) place bit known = register_tested (sfr_at at) place bit known

-- a byte of RAM, or a register
abbrev pub IsPlace : Address → Type 0
IsPlace (InRam at) = at < 256
IsPlace (InSfr at) = Unit {0}
