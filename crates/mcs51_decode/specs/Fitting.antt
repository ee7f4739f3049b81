-- The instructions that there are: each operand is a byte, a word, or the eleven bits of an absolute target.
use Rattle.std.specs.Prelude.{◌<◌}
use Rattle.mcs51_decode.specs.declared.instr.Memory.{Memory}
use Rattle.mcs51_decode.specs.declared.instr.Memory.TheVariants as memory
use Rattle.mcs51_decode.specs.declared.instr.Source.{Source}
use Rattle.mcs51_decode.specs.declared.instr.Source.TheVariants as source
use Rattle.mcs51_decode.specs.declared.instr.Place.{Place}
use Rattle.mcs51_decode.specs.declared.instr.Place.TheVariants as place
use Rattle.mcs51_decode.specs.declared.instr.Mask.{Mask}
use Rattle.mcs51_decode.specs.declared.instr.Mask.TheVariants as mask
use Rattle.mcs51_decode.specs.declared.instr.Comparison.{Comparison}
use Rattle.mcs51_decode.specs.declared.instr.Comparison.TheVariants as comparison
use Rattle.mcs51_decode.specs.declared.instr.Counter.{Counter}
use Rattle.mcs51_decode.specs.declared.instr.Counter.TheVariants as counter
use Rattle.mcs51_decode.specs.declared.instr.Instr.{Instr}
use Rattle.mcs51_decode.specs.declared.instr.Instr.TheVariants.{AbsoluteJump, AbsoluteCall, LongJump, LongCall, JumpOn, JumpOnBit, CompareJump, DecrementJump, Increment, Decrement, Accumulate, DirectLogic, CarryBit, ChangeBit, MoveImmediate, MoveToDirect, MoveFromDirect, LoadDataPointer, Load, Store, Push, Pop, Exchange}

abbrev pub IsMemory : Memory → Type 0
IsMemory (memory.Direct direct) = direct < 256
IsMemory (memory.Working w) = Unit {0}

abbrev pub IsSource : Source → Type 0
IsSource (source.Immediate value) = value < 256
IsSource (source.Memory m) = IsMemory m

abbrev pub IsPlace : Place → Type 0
IsPlace place.Accumulator = Unit {0}
IsPlace (place.Memory m) = IsMemory m

abbrev pub IsMask : Mask → Type 0
IsMask mask.Accumulator = Unit {0}
IsMask (mask.Immediate value) = value < 256

abbrev pub IsComparison : Comparison → Type 0
IsComparison (comparison.AccumulatorImmediate value) = value < 256
IsComparison (comparison.AccumulatorDirect direct) = direct < 256
IsComparison (comparison.WorkingImmediate w value) = value < 256

abbrev pub IsCounter : Counter → Type 0
IsCounter (counter.Direct direct) = direct < 256
IsCounter (counter.Register n) = Unit {0}

abbrev pub IsInstr : Instr → Type 0
IsInstr (AbsoluteJump target) = target < 2048
IsInstr (AbsoluteCall target) = target < 2048
IsInstr (LongJump target) = target < 65536
IsInstr (LongCall target) = target < 65536
IsInstr (JumpOn when rel) = rel < 256
IsInstr (JumpOnBit kind address rel) = (address < 256) × (rel < 256)
IsInstr (CompareJump compared rel) = IsComparison compared × (rel < 256)
IsInstr (DecrementJump counted rel) = IsCounter counted × (rel < 256)
IsInstr (Increment changed) = IsPlace changed
IsInstr (Decrement changed) = IsPlace changed
IsInstr (Accumulate does with) = IsSource with
IsInstr (DirectLogic does direct by) = (direct < 256) × IsMask by
IsInstr (CarryBit does address) = address < 256
IsInstr (ChangeBit does address) = address < 256
IsInstr (MoveImmediate to value) = IsPlace to × (value < 256)
IsInstr (MoveToDirect to from) = (to < 256) × IsMemory from
IsInstr (MoveFromDirect to from) = from < 256
IsInstr (LoadDataPointer value) = value < 65536
IsInstr (Load m) = IsMemory m
IsInstr (Store m) = IsMemory m
IsInstr (Push direct) = direct < 256
IsInstr (Pop direct) = direct < 256
IsInstr (Exchange m) = IsMemory m
IsInstr other = Unit {0}
