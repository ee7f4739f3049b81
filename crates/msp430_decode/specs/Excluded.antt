-- The first words that no instruction begins with, by their fields.
use Rattle.std.specs.Prelude.{ℕ, ◌/◌, ◌%◌, ◌==◌, nat_lt, nat_le, not, ◌&&◌, ◌||◌, if◌then◌else◌, Bool, true, false}

-- RRC, SWPB, RRA and SXT on an immediate, on a constant that SR generates, or on R3
abbrev pub is_constant_operand : ℕ → ℕ → Bool
is_constant_operand mode register =
    ((register == 0) && (mode == 3)) || ((register == 2) && nat_le 2 mode) || (register == 3)

-- of the words 1000h to 13FFh: code 7; code 6 but for RETI; the byte forms of SWPB, SXT and CALL; @PC; and the four
-- that write their operand back, on a constant
abbrev pub is_excluded_single : ℕ → Bool
is_excluded_single word =
    let code = word / 128 % 8 in
    let is_byte = word / 64 % 2 == 1 in
    let mode = word / 16 % 4 in
    let register = word % 16 in
    if code == 7 then true
    else if code == 6 then not (word == 0x1300)
    else if is_byte && ((code == 1) || (code == 3) || (code == 5)) then true
    else if (mode == 2) && (register == 0) then true
    else nat_lt code 4 && is_constant_operand mode register

-- of the words from 4000h on: @PC as a source, and R3 as a destination with Ad 1
abbrev pub is_excluded_double : ℕ → Bool
is_excluded_double word =
    ((word / 16 % 4 == 2) && (word / 256 % 16 == 0)) || ((word / 128 % 2 == 1) && (word % 16 == 3))

-- all below 1000h, and 1400h to 1FFFh
abbrev pub is_excluded : ℕ → Bool
is_excluded word =
    if nat_lt word 0x1000 then true
    else if nat_lt word 0x1400 then is_excluded_single word
    else if nat_lt word 0x2000 then true
    else if nat_lt word 0x4000 then false
    else is_excluded_double word
