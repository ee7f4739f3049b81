use Rattle.std.proofs.Common.{ℕ, ◌≤◌, ◌+◌, ◌*◌, length, take, ap, arith}
use Rattle.std.proofs.lemmas.List.{length-take-le}
use Rattle.value_bits.specs.Bits.{choices}
use Rattle.value_bits.proofs.Fillings.{length-longer}
use Rattle.value_bits.proofs.making.longer.Goals as goal

pub push_longer-requires-clause-room : goal.push_longer-requires-clause-room
push_longer-requires-clause-room c =
    let made = ap length c.loop-other.invariant in
    let long = length-longer c.args.bit (take c.loop-other.other-index c.args.others.now) in
    let taken = length-take-le c.loop-other.other-index c.args.others.now (omega arith) in
    let product = ap (λ (n : ℕ). n * length (choices c.args.bit)) taken in
    let most : (c.loop-other.other-index + 1) * length (choices c.args.bit) ≤ length c.args.others.now * length (choices c.args.bit) = grind arith in
    omega (arith, made, long, product, most)
