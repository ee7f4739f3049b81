-- The bits that a state doesn't hold.
use Rattle.std.specs.Prelude.{ℕ, ◌+◌, ◌/◌, ◌%◌}
use Rattle.mcs51_chip.specs.declared.state.ChipState.{ChipState}

-- 0 where none of these bits is set: the bits 1 and 0 of PSW, bit 6 of IE and the bits 7 and 6 of IP
abbrev pub unheld : ChipState → ℕ
unheld s = s.psw % 4 + s.ie / 64 % 2 + s.ip / 64
