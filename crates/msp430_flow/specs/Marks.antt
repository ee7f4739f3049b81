-- The numbers that widening stops at: the ends of RAM and of its mirror, and the constants that a program compares with.
use Rattle.std.specs.Prelude.{ℕ, ◌+◌, ◌*◌, ◌%◌, if◌then◌else◌, Bool, true, false, Option, None, Some, option_map, Result, Ok, Err, List, [], ◌∷◌, ◌++◌}
use Rattle.chip_flow.specs.Marks.{mark, marks_along, marks_by}
use Rattle.msp430_decode.specs.declared.instr.Instr.{Instr}
use Rattle.msp430_decode.specs.declared.instr.Instr.TheVariants.{Double, Single, Jump, ReturnFromInterrupt}
use Rattle.msp430_decode.specs.declared.instr.Operation.{Operation}
use Rattle.msp430_decode.specs.declared.instr.Operation.TheVariants.{Cmp, Sub}
use Rattle.msp430_decode.specs.declared.instr.Source.{Source}
use Rattle.msp430_decode.specs.declared.instr.Source.TheVariants as source
use Rattle.msp430_decode.specs.declared.instr.Width.{Width}
use Rattle.msp430_decode.specs.declared.instr.Width.TheVariants.{Word, Byte}
use Rattle.msp430_decode.specs.declared.refusal.NoInstr.{NoInstr}
use Rattle.msp430_decode.specs.Decoding.{decoded}
use Rattle.msp430_chip.specs.declared.device.Device.{Device}
use Rattle.msp430_decode.specs.Operands.{constant_value}

-- the number that a source is, if it is one
abbrev pub constant_of : Source → Option ℕ
constant_of (source.Immediate value) = Some value
constant_of (source.Constant constant) = Some (constant_value constant)
constant_of other = None

-- a byte instruction takes the low byte
abbrev pub in_width : Width → ℕ → ℕ
in_width Word n = n
in_width Byte n = n % 256

abbrev pub is_comparison : Operation → Bool
is_comparison Cmp = true
is_comparison Sub = true
is_comparison other = false

-- the marks of an instruction: CMP and SUB with a constant have some
abbrev pub marks_in : Instr → List ℕ
marks_in (Double operation width operand target) =
    if is_comparison operation then marks_by 65536 (option_map (in_width width) (constant_of operand)) else []
marks_in (Single operation width operand) = []
marks_in (Jump condition offset) = []
marks_in ReturnFromInterrupt = []

abbrev pub marks_found : Result (Instr × ℕ) NoInstr → List ℕ
marks_found (Err refusal) = []
marks_found (Ok found) = marks_in found.0

-- the marks of what stands at each even address
abbrev pub marks_at : List (Option ℕ) → (word : ℕ) → List ℕ
marks_at image word = marks_found (decoded image (2 * word))

-- where a range begins, and where what is behind it does
abbrev pub range_marks : (lo hi : ℕ) → List ℕ
range_marks lo hi = mark 65536 lo ++ mark 65536 (hi + 1)

abbrev pub mirror_marks : (mirror : Option (ℕ × ℕ)) → List ℕ
mirror_marks None = []
mirror_marks (Some (first, last)) = range_marks first last

-- the marks of a device: those of RAM, of its mirror, and of each even address at which an instruction stands
abbrev pub marks_of : Device → List ℕ
marks_of device =
    0 ∷ 1 ∷ range_marks device.ram.lo device.ram.hi ++ mirror_marks device.ram.mirror ++ marks_along (marks_at device.image) 0 32768

-- where widening is coarse it has none
abbrev pub stops : Bool → Device → List ℕ
stops coarse device = if coarse then [] else marks_of device
