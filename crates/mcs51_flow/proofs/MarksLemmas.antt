-- Marks are below 256.
use Rattle.std.proofs.Common.{ℕ, Bool, true, false, Option, Result, Ok, Err, List, arith}
use Rattle.chip_flow.specs.MarkFacts.{along_below, by_below, first_marks, none_marks}
use Rattle.chip_flow.specs.Marks.{marks_along}
use Rattle.mcs51_decode.specs.declared.instr.Instr.{Instr}
use Rattle.mcs51_decode.specs.declared.instr.Instr.TheVariants as instr
use Rattle.mcs51_decode.specs.declared.refusal.NoInstr.{NoInstr}
use Rattle.mcs51_decode.specs.Decoding.{decoded}
use Rattle.value_set.specs.Laws.{AreMarks}
use Rattle.mcs51_flow.specs.Marks.{constant_of, marks_at, marks_found, marks_in, marks_of, stops}

instr_below : (instr_so : Instr) → AreMarks 256 (marks_in instr_so)
instr_below instr.Nop = none_marks 256
instr_below (instr.AbsoluteJump one) = none_marks 256
instr_below (instr.LongJump one) = none_marks 256
instr_below (instr.AbsoluteCall one) = none_marks 256
instr_below (instr.LongCall one) = none_marks 256
instr_below instr.Return = none_marks 256
instr_below instr.ReturnFromInterrupt = none_marks 256
instr_below instr.JumpIndirect = none_marks 256
instr_below (instr.JumpOn one other) = none_marks 256
instr_below (instr.JumpOnBit one other more) = none_marks 256
instr_below (instr.CompareJump comparison rel) = by_below 256 (constant_of comparison)
instr_below (instr.DecrementJump one other) = none_marks 256
instr_below (instr.ChangeAccumulator one) = none_marks 256
instr_below (instr.Increment one) = none_marks 256
instr_below (instr.Decrement one) = none_marks 256
instr_below instr.IncrementDataPointer = none_marks 256
instr_below (instr.Accumulate one other) = none_marks 256
instr_below (instr.DirectLogic one other more) = none_marks 256
instr_below instr.Multiply = none_marks 256
instr_below instr.Divide = none_marks 256
instr_below (instr.ChangeCarry one) = none_marks 256
instr_below (instr.CarryBit one other) = none_marks 256
instr_below (instr.ChangeBit one other) = none_marks 256
instr_below (instr.MoveImmediate one other) = none_marks 256
instr_below (instr.MoveToDirect one other) = none_marks 256
instr_below (instr.MoveFromDirect one other) = none_marks 256
instr_below (instr.LoadDataPointer one) = none_marks 256
instr_below (instr.Load one) = none_marks 256
instr_below (instr.Store one) = none_marks 256
instr_below (instr.MoveCode one) = none_marks 256
instr_below (instr.ReadExternal one) = none_marks 256
instr_below (instr.WriteExternal one) = none_marks 256
instr_below (instr.Push one) = none_marks 256
instr_below (instr.Pop one) = none_marks 256
instr_below (instr.Exchange one) = none_marks 256
instr_below (instr.ExchangeDigit one) = none_marks 256

found_below : (found : Result (Instr × ℕ) NoInstr) → AreMarks 256 (marks_found found)
found_below (Err refusal) = none_marks 256
found_below (Ok found) = instr_below found.0

marks_below : (image : List (Option ℕ)) → AreMarks 256 (marks_of image)
marks_below image = first_marks 256 (marks_along (marks_at image) 0 65536) (omega arith) (along_below 256 (marks_at image) (λ at. found_below (decoded image at)) 65536 0)

pub stops_below : (coarse : Bool) (image : List (Option ℕ)) → AreMarks 256 (stops coarse image)
stops_below true image = none_marks 256
stops_below false image = marks_below image
