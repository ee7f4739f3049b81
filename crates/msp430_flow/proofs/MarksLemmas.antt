-- Marks are below 65536.
use Rattle.std.proofs.Common.{ℕ, ◌+◌, ◌*◌, ◌++◌, Bool, true, false, Option, None, Some, Result, Ok, Err, [], arith}
use Rattle.std.specs.Prelude.{option_map}
use Rattle.std.proofs.lemmas.Bool.{cond_both}
use Rattle.chip_flow.specs.MarkFacts.{along_below, both_marks, by_below, first_marks, mark_below, none_marks}
use Rattle.chip_flow.specs.Marks.{mark, marks_along, marks_by}
use Rattle.msp430_decode.specs.declared.instr.Instr.{Instr}
use Rattle.msp430_decode.specs.declared.instr.Instr.TheVariants.{Double, Single, Jump, ReturnFromInterrupt}
use Rattle.msp430_decode.specs.declared.refusal.NoInstr.{NoInstr}
use Rattle.msp430_decode.specs.Decoding.{decoded}
use Rattle.msp430_chip.specs.declared.device.Device.{Device}
use Rattle.value_set.specs.Laws.{AreMarks}
use Rattle.msp430_flow.specs.Marks.{constant_of, in_width, is_comparison, marks_at, marks_found, marks_in, marks_of, mirror_marks, range_marks, stops}

instr_below : (instr : Instr) → AreMarks 65536 (marks_in instr)
instr_below (Double operation width operand target) =
    let constant = option_map (in_width width) (constant_of operand) in
    cond_both (is_comparison operation) (marks_by 65536 constant) [] (AreMarks 65536) (λ e. by_below 65536 constant) (λ e. none_marks 65536)
instr_below (Single operation width operand) = none_marks 65536
instr_below (Jump condition offset) = none_marks 65536
instr_below ReturnFromInterrupt = none_marks 65536

found_below : (found : Result (Instr × ℕ) NoInstr) → AreMarks 65536 (marks_found found)
found_below (Err refusal) = none_marks 65536
found_below (Ok found) = instr_below found.0

range_below : (lo hi : ℕ) → AreMarks 65536 (range_marks lo hi)
range_below lo hi = both_marks 65536 (mark 65536 lo) (mark 65536 (hi + 1)) (mark_below 65536 lo) (mark_below 65536 (hi + 1))

mirror_below : (mirror : Option (ℕ × ℕ)) → AreMarks 65536 (mirror_marks mirror)
mirror_below None = none_marks 65536
mirror_below (Some (first, last)) = range_below first last

marks_below : (device : Device) → AreMarks 65536 (marks_of device)
marks_below device =
    let image = marks_along (marks_at device.image) 0 32768 in
    let ram = range_marks device.ram.lo device.ram.hi in
    let mirror = mirror_marks device.ram.mirror in
    let both = both_marks 65536 ram mirror (range_below device.ram.lo device.ram.hi) (mirror_below device.ram.mirror) in
    first_marks 65536 (ram ++ mirror ++ image) (omega arith)
    (both_marks 65536 (ram ++ mirror) image both (along_below 65536 (marks_at device.image) (λ word. found_below (decoded device.image (2 * word))) 32768 0))

pub stops_below : (coarse : Bool) (device : Device) → AreMarks 65536 (stops coarse device)
stops_below true device = none_marks 65536
stops_below false device = marks_below device
