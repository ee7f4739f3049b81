-- The numbers that widening stops at: the constants that CJNE compares with (Intel, MCS-51 Programmer's Guide and Instruction
-- Set, "CJNE").
use Rattle.std.specs.Prelude.{ℕ, if◌then◌else◌, Bool, Option, None, Some, Result, Ok, Err, List, [], ◌∷◌}
use Rattle.chip_flow.specs.Marks.{marks_along, marks_by}
use Rattle.mcs51_decode.specs.declared.instr.Comparison.{Comparison}
use Rattle.mcs51_decode.specs.declared.instr.Comparison.TheVariants.{AccumulatorImmediate, AccumulatorDirect, WorkingImmediate}
use Rattle.mcs51_decode.specs.declared.instr.Instr.{Instr}
use Rattle.mcs51_decode.specs.declared.instr.Instr.TheVariants.{CompareJump}
use Rattle.mcs51_decode.specs.declared.refusal.NoInstr.{NoInstr}
use Rattle.mcs51_decode.specs.Decoding.{decoded}

-- the constant of a comparison, if it has one
abbrev pub constant_of : Comparison → Option ℕ
constant_of (AccumulatorImmediate value) = Some value
constant_of (AccumulatorDirect direct) = None
constant_of (WorkingImmediate w value) = Some value

-- the marks of an instruction: CJNE with a constant has some
abbrev pub marks_in : Instr → List ℕ
marks_in (CompareJump comparison rel) = marks_by 256 (constant_of comparison)
marks_in other = []

abbrev pub marks_found : Result (Instr × ℕ) NoInstr → List ℕ
marks_found (Err refusal) = []
marks_found (Ok found) = marks_in found.0

-- the marks of what stands at each address
abbrev pub marks_at : List (Option ℕ) → (at : ℕ) → List ℕ
marks_at image at = marks_found (decoded image at)

abbrev pub marks_of : List (Option ℕ) → List ℕ
marks_of image = 0 ∷ 1 ∷ marks_along (marks_at image) 0 65536

-- where widening is coarse it has none
abbrev pub stops : Bool → List (Option ℕ) → List ℕ
stops coarse image = if coarse then [] else marks_of image
