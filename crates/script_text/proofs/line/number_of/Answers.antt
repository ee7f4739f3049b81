use Rattle.std.proofs.Common.{arith}
use Rattle.script_text.proofs.LineLemmas.{digit_room, number_short}
use Rattle.script_text.proofs.line.number_of.Goals as goal

pub overflow_mul-number : goal.overflow_mul-number
overflow_mul-number c =
    let room = digit_room c.loop-i.i c.loop-i.number 0 (omega (arith, number_short c.args.line.now c.requires, c.loop-i-test.true)) c.loop-i.invariant.0 (omega arith) in
    omega (arith, room.1)

pub overflow_add-number : goal.overflow_add-number
overflow_add-number c =
    let room = digit_room c.loop-i.i c.loop-i.number c.digit_value.result (omega (arith, number_short c.args.line.now c.requires, c.loop-i-test.true)) c.loop-i.invariant.0 c.digit_value.ensures.below in
    omega (arith, room.1)
