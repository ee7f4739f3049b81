-- The interrupts of the MCS-51 (Intel, MCS-51 Programmer's Guide and Instruction Set, "Interrupts"): the sources 0 to 5 are
-- EX0, ET0, EX1, ET1, ES and ET2, each by its bit in IE and in IP. The bit of IP gives a source the high level or the low one.
use Rattle.std.specs.Prelude.{ℕ, ◌+◌, ◌*◌, ◌==◌, ◌&&◌, ◌||◌, not, if◌then◌else◌, Bool, true, false, List}
use Rattle.std.specs.List.{filter, range_with_len}
use Rattle.std.specs.Int.{bit_at}
use Rattle.mcs51_chip.specs.declared.state.ChipState.{ChipState}

-- the handlers' addresses: 0003h, 000Bh, 0013h, 001Bh, 0023h and 002Bh
abbrev pub vector_of : ℕ → ℕ
vector_of source = 3 + 8 * source

-- EA, bit 7 of IE, and the source's own bit
abbrev pub is_enabled : ChipState → ℕ → Bool
is_enabled s source = (bit_at s.ie 7 == 1) && (bit_at s.ie source == 1)

abbrev pub is_high : ChipState → ℕ → Bool
is_high s source = bit_at s.ip source == 1

-- the high level interrupts the low one, and no level interrupts itself or a higher one
abbrev pub is_allowed : ChipState → Bool → Bool
is_allowed s true = not s.serves_high
is_allowed s false = not (s.serves_low || s.serves_high)

abbrev pub may_come : ChipState → ℕ → Bool
may_come s source = is_enabled s source && is_allowed s (is_high s source)

-- the sources whose interrupt may come at a boundary, ascending
unfoldable pub coming : ChipState → List ℕ
coming s = filter (may_come s) (range_with_len 0 6)

-- a source's level is in service
abbrev pub serving : Bool → ChipState → ChipState
serving true s = record s { serves_high = true }
serving false s = record s { serves_low = true }

-- RETI ends the highest level in service, if any
abbrev pub level_ended : ChipState → ChipState
level_ended s = if s.serves_high then record s { serves_high = false } else record s { serves_low = false }
