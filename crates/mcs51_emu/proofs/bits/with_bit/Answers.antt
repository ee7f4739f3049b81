use Rattle.std.proofs.Common.{◌+◌, ◌-◌, ◌*◌, ◌<◌, arith}
use Rattle.mcs51_chip.specs.NumberFacts.{bit_put}
use Rattle.mcs51_emu.proofs.bits.with_bit.Goals as goal

pub overflow_add-result : goal.overflow_add-result
overflow_add-result c =
    let fits : c.args.byte - c.bit_at.result * c.weight-weight.result + c.args.bit * c.weight-weight.result < 256 =
    rw (c.bit_at.ensures.value, c.weight-weight.ensures.value) (bit_put c.args.byte c.args.place c.args.bit c.requires.place (omega (arith, c.ranges.byte)) (omega (arith, c.requires.bit))) in
    omega (arith, fits)
